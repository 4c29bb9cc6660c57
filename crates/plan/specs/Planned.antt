-- The plan of a frame: each batch gets a place in staging and one in the metadata buffers.
use Rattle.std.specs.Prelude.{ℕ, ◌*◌, cond, List, [], ◌∷◌, ◌++◌, length, take, drop, Some, None, Ok, Err, Option, Result, nat_lt}
use Rattle.command.specs.declared.refusal.Refusal.{Refusal}
use Rattle.command.specs.declared.refusal.Refusal.TheVariants.{TableFull, NoBuffer}
use Rattle.places.specs.Placed.{fits, following, placed, past}
use Rattle.places.specs.declared.current.CurrentEntry.{CurrentEntry}
use Rattle.batcher.specs.declared.records.DrawIndirectValidationBatch.{DrawIndirectValidationBatch}
use Rattle.plan.specs.declared.frame.FramePlan.{FramePlan}

-- sixteen bytes an entry
abbrev pub bytes_of : DrawIndirectValidationBatch → ℕ
bytes_of b = b.count * 16

abbrev pub place_of : ℕ → Option CurrentEntry → DrawIndirectValidationBatch → CurrentEntry
place_of room c b = placed c (bytes_of b) room

-- the current place once the batch stands
abbrev pub next_of : ℕ → Option CurrentEntry → DrawIndirectValidationBatch → Option CurrentEntry
next_of room c b = Some (past (place_of room c b) (bytes_of b))

abbrev pub put : DrawIndirectValidationBatch → CurrentEntry → CurrentEntry → DrawIndirectValidationBatch
put b s m = record { key = b.key; count = b.count; staging = s; metadata = m }

-- every batch planned, after the current places in staging and in metadata
unfoldable pub planned : ℕ → ℕ → List DrawIndirectValidationBatch → Option CurrentEntry → Option CurrentEntry → List DrawIndirectValidationBatch
planned block room [] s m = []
planned block room (b ∷ bs) s m = put b (place_of block s b) (place_of room m b) ∷ planned block room bs (next_of block s b) (next_of room m b)

-- the current place after all of them
unfoldable pub ending : ℕ → List DrawIndirectValidationBatch → Option CurrentEntry → Option CurrentEntry
ending room [] c = c
ending room (b ∷ bs) c = ending room bs (next_of room c b)

abbrev pub measured : ℕ → ℕ → List DrawIndirectValidationBatch → FramePlan
measured block room bs = record { blocks = following (ending block bs None); metadata = following (ending room bs None) }

-- the supply of metadata buffers, asked for each that is new
unfoldable pub supplied : {V : Type 0} → (V → ℕ → V) → ℕ → List DrawIndirectValidationBatch → Option CurrentEntry → V → V
supplied ensured room [] c v = v
supplied ensured room (b ∷ bs) c v = supplied ensured room bs (next_of room c b) (cond (fits c (bytes_of b) room) v (ensured v (place_of room c b).index))

-- the plan of the first n, or why there is none
abbrev pub plan_answer : ℕ → ℕ → ℕ → List DrawIndirectValidationBatch → ℕ → Result FramePlan Refusal
plan_answer block room n bs capacity =
    cond (nat_lt (length bs) n) (Err TableFull)
    (cond (nat_lt capacity (measured block room (take n bs)).metadata) (Err NoBuffer)
    (Ok (measured block room (take n bs))))

abbrev pub batches_after : ℕ → ℕ → ℕ → Result FramePlan Refusal → List DrawIndirectValidationBatch → List DrawIndirectValidationBatch
batches_after block room n (Ok p) bs = planned block room (take n bs) None None ++ drop n bs
batches_after block room n (Err e) bs = bs

abbrev pub supply_after : {V : Type 0} → (V → ℕ → V) → ℕ → ℕ → Result FramePlan Refusal → List DrawIndirectValidationBatch → V → V
supply_after ensured room n (Ok p) bs v = supplied ensured room (take n bs) None v
supply_after ensured room n (Err e) bs v = v
