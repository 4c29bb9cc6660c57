-- A list of indices read from its start with the marks beside it.
use Rattle.std.proofs.Common.{◌≡◌, ℕ, ◌<◌, ◌≤◌, Bool, true, false, List, [], ◌∷◌, ◌++◌, length, get_or, take, drop, set, Some, None, sym, refl, ap, ◌∙◌, subst, arith}
use Rattle.std.proofs.lemmas.List.{length-set, length-replicate, take_all, take_at}
use Rattle.std.proofs.lemmas.Bool.{cond-true}
use Rattle.std.proofs.lemmas.Option.{cond_some}
use Rattle.utils.proofs.Members.{firsts_named, firsts_new, firsts_again}
use Rattle.utils.proofs.Room.{below_more, not_below}
use Rattle.utils.proofs.Turns.{Tells, tells_none, tells_more, inserted, refused, first_time, not_first}
use Rattle.utils.specs.Firsts.{firsts, FirstNamed}
use Rattle.utils.specs.Marks.{wiped, insertion}
use Rattle.utils.specs.Unique.{all_below, counted, fronted}

-- what holds of n marks after these were named
pub record Read (n : ℕ) (named marks : List ℕ) : Type 0 where
  pub many : length marks ≡ n
  pub tells : Tells named marks
  pub below : all_below n named ≡ true

pub read_none : (before marks : List ℕ) → marks ≡ wiped before → Read (length marks) [] marks
read_none before marks e =
    record {
      many = refl;
      tells = subst (λ (ms : List ℕ). Tells [] ms) (sym e) (tells_none before);
      below = refl;
    }

-- what one index more makes of them: `more` are the names with it behind
pub record Turn (n : ℕ) (named more after : List ℕ) (x : ℕ) (b : Bool) : Type 0 where
  pub read : Read n more after
  pub first : b ≡ true → firsts more ≡ firsts named ++ x ∷ []
  pub again : b ≡ false → firsts more ≡ firsts named

pub read_more : (n : ℕ) (named more marks after : List ℕ) (x : ℕ) (b : Bool) → more ≡ named ++ x ∷ [] → Read n named marks → Some b ≡ insertion marks x → after ≡ set marks x 1 → Turn n named more after x b
read_more n named more marks after x b m r q a =
    let lt : x < length marks = (inserted marks x b q).0 in
    record {
      read = record {
        many = ap length a ∙ (length-set marks x 1 ∙ r.many);
        tells =
            subst (λ (l : List ℕ). Tells l after) (sym m)
            (subst (λ (l : List ℕ). Tells (named ++ x ∷ []) l) (sym a) (tells_more named marks x r.tells lt));
        below = ap (all_below n) m ∙ below_more n named x r.below (omega (arith, r.many));
      };
      first = λ e. ap firsts m ∙ firsts_new named x (first_time named marks x r.tells (sym (ap (λ (c : Bool). Some c) e) ∙ q));
      again = λ e. ap firsts m ∙ firsts_again named x (not_first named marks x r.tells (sym (ap (λ (c : Bool). Some c) e) ∙ q));
    }

-- as many marks as before they were wiped
pub read_many : (before start named marks : List ℕ) → start ≡ wiped before → Read (length start) named marks → length marks ≡ length before
read_many before start named marks e r = r.many ∙ (ap length e ∙ length-replicate (length before) 0)

-- every index was read
pub read_all : (before start xs marks : List ℕ) (i found : ℕ) → start ≡ wiped before → length xs ≤ i → Read (length start) (take i xs) marks → found ≡ length (firsts (take i xs)) → Some found ≡ counted (length before) xs
read_all before start xs marks i found e h r f =
    let all : take i xs ≡ xs = take_all i xs h in
    let many : length start ≡ length before = ap length e ∙ length-replicate (length before) 0 in
    let below : all_below (length before) xs ≡ true =
    ap (λ (n : ℕ). all_below n xs) (sym many) ∙ (ap (λ (l : List ℕ). all_below (length start) l) (sym all) ∙ r.below) in
    ap (λ (n : ℕ). Some n) (f ∙ ap (λ (l : List ℕ). length (firsts l)) all) ∙ sym (cond-true (all_below (length before) xs) (Some (length (firsts xs))) None below)

-- one index was past the marks
pub read_past : (before start named xs marks : List ℕ) (i : ℕ) → start ≡ wiped before → i < length xs → Read (length start) named marks → None ≡ insertion marks (get_or xs i 0) → all_below (length before) xs ≡ false
read_past before start named xs marks i e h r q =
    not_below (length before) xs i h (omega (arith, refused marks (get_or xs i 0) q, read_many before start named marks e r))

-- what a count of all says
pub counted_some : (n : ℕ) (xs : List ℕ) (found : ℕ) → Some found ≡ counted n xs → (all_below n xs ≡ true) × (found ≡ length (firsts xs))
counted_some n xs found q = let p = cond_some (all_below n xs) (length (firsts xs)) found (sym q) in (p.0, sym p.1)

-- the front of what was written is all that is named, in first-named order
pub front_named : (xs room : List ℕ) (n : ℕ) → n ≡ length (firsts xs) → FirstNamed xs (take n (fronted (firsts xs) room))
front_named xs room n e =
    subst (λ (l : List ℕ). FirstNamed xs l) (sym (take_at (firsts xs) (drop (length (firsts xs)) room) n (sym e))) (firsts_named xs)

-- the same of as many as a count of all says
pub counted_named : (n : ℕ) (xs room out : List ℕ) (found : ℕ) → Some found ≡ counted n xs → out ≡ fronted (firsts xs) room → FirstNamed xs (take found out)
counted_named n xs room out found q w = rw w (front_named xs room found (counted_some n xs found q).1)
