-- The law of windows.
use Rattle.std.proofs.Common.{◌≡◌, ℕ, ◌+◌, ◌-◌, ◌*◌, ◌/◌, ◌%◌, ◌<◌, ◌≤◌, min, true, sym, ap, ◌∙◌, ⊎_elim, mod-lt, mul_assoc, add-mul, div-add-mod', sub-add_cancel, div-mul-le_self, arith}
use native.Mathlib.Nat.{mul-mod_left, lt-div-mul-add, zero-mod}
use Rattle.std.proofs.lemmas.Nat.{le-div, mul-le}
use Rattle.std.proofs.lemmas.Bool.{cases_lt}
use Rattle.std.proofs.lemmas.Bool.Decides.{nat_tests}
use Rattle.command.specs.Lawful.{lawful}
use Rattle.entry.specs.Window.{binding_size_of, offset_stride, stepped_offset, src_offsets, WindowLaw}

-- windows of b bytes reach the end of s bytes after a whole number of alignments, and one holds an alignment and 20 bytes
record Steps (a m s b : ℕ) : Type 0 where
  pub count : ℕ
  pub reaches : s ≡ b + count * a
  pub room : a + 20 ≤ b
  pub bounded : b ≤ m

min_mod : (x y a : ℕ) → x % a ≡ 0 → y % a ≡ 0 → min x y % a ≡ 0
min_mod x y a p q = grind arith

module _ (a m s : ℕ) (pos : 0 < a) (wide : 2 * a + 20 ≤ m) (more : m < s) where
  quotients : m / a ≤ s / a
  quotients = le-div (m / a) s a pos (omega (arith, div-mul-le_self m a))

  between : (s / a - m / a) * a + m / a * a ≡ s / a * a
  between = sym (add-mul (s / a - m / a) (m / a) a) ∙ ap (λ (q : ℕ). q * a) (sub-add_cancel quotients)

  steps_low : s % a ≤ m % a → Steps a m s (m - m % a + s % a)
  steps_low h =
      record { count = s / a - m / a; reaches = omega (arith, between, div-add-mod' s a, div-add-mod' m a); room = omega (arith, mod-lt m pos); bounded = omega (arith, div-add-mod' m a) }

  steps_high : m % a < s % a → Steps a m s (m - m % a - a + s % a)
  steps_high h =
      let one_more : (s / a - m / a + 1) * a ≡ (s / a - m / a) * a + a = add-mul (s / a - m / a) 1 a ∙ omega arith in
      record { count = s / a - m / a + 1; reaches = omega (arith, one_more, between, div-add-mod' s a, div-add-mod' m a, mod-lt m pos); room = omega (arith, mod-lt m pos); bounded = omega (arith, mod-lt m pos, mod-lt s pos) }

  steps : Steps a m s (binding_size_of a m s)
  steps = grind (arith, nat_tests, steps_low, steps_high)

-- windows that begin a stride apart, the last no later than the source's end allows
module _ (a m s o d b : ℕ) (pos : 0 < a) (fits : Steps a m s b) (small : d ≤ 20) (lies : o + d ≤ s) where
  stride_wide : a ≤ offset_stride a b
  stride_wide =
      let one : 1 ≤ (b - 20) / a = le-div 1 (b - 20) a pos (omega (arith, fits.room)) in
      omega (arith, mul-le 1 a ((b - 20) / a) a one (omega arith))

  stride_low : offset_stride a b ≤ b - 20
  stride_low = div-mul-le_self (b - 20) a

  stepped : stepped_offset b (offset_stride a b) s o ≡ min (s - b) (o / offset_stride a b * offset_stride a b)
  stepped = let h : 0 < offset_stride a b = omega (arith, stride_wide) in grind (arith, nat_tests)

  below : o / offset_stride a b * offset_stride a b ≤ o
  below = div-mul-le_self o (offset_stride a b)

  near : o < o / offset_stride a b * offset_stride a b + offset_stride a b
  near = lt-div-mul-add (omega (arith, stride_wide))

  stride_aligned : o / offset_stride a b * offset_stride a b % a ≡ 0
  stride_aligned = rw (← mul_assoc) (mul-mod_left (o / offset_stride a b * ((b - 20) / a)) a)

  last_aligned : (s - b) % a ≡ 0
  last_aligned = let e : s - b ≡ fits.count * a = omega (arith, fits.reaches) in rw e (mul-mod_left fits.count a)

  stepped_law : WindowLaw a m s o d b (record { dynamic_offset = stepped_offset b (offset_stride a b) s o; offset = o - stepped_offset b (offset_stride a b) s o })
  stepped_law =
      rw stepped
      (record { whole = omega (arith, below); aligned = min_mod (s - b) (o / offset_stride a b * offset_stride a b) a last_aligned stride_aligned; inside = omega (arith, fits.reaches); bounded = fits.bounded; reached = omega (arith, below, near, stride_low, fits.room) })

-- one window over the whole of a source that is no longer than a window may be
module _ (a m s o d : ℕ) (fewer : s ≤ m) (lies : o + d ≤ s) where
  binding_is : binding_size_of a m s ≡ s
  binding_is = grind (arith, nat_tests)

  starts : (e : ℕ) → stepped_offset s e s o ≡ 0
  starts e = grind (arith, nat_tests)

  single_law : WindowLaw a m s o d (binding_size_of a m s) (src_offsets a m s o)
  single_law =
      rw (binding_is, starts (offset_stride a s))
      (record { whole = omega arith; aligned = zero-mod a; inside = omega arith; bounded = fewer; reached = omega arith })

pub window_law : (a m s o d : ℕ) → lawful a m ≡ true → d ≤ 20 → o + d ≤ s → WindowLaw a m s o d (binding_size_of a m s) (src_offsets a m s o)
window_law a m s o d ok small lies =
    let pos : 0 < a = grind (arith, nat_tests) in
    let wide : 2 * a + 20 ≤ m = grind (arith, nat_tests) in
    ⊎_elim (λ more. stepped_law a m s o d (binding_size_of a m s) pos (steps a m s pos wide more) small lies) (λ fewer. single_law a m s o d fewer lies) (cases_lt m s)
