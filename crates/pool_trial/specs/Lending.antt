-- One kind's buffers over a device, as a supply.
use Rattle.std.specs.Prelude.{ℕ, ◌+◌, ◌-◌, min, cond, length, nat_lt}
use Rattle.places.specs.Supplies.{gives}
use Rattle.device.specs.declared.buffers.PoolKind.{PoolKind}
use Rattle.pool_trial.specs.Making.{Making, one_made}
use Rattle.pool_trial.specs.Stock.{popped, pushed}
use Rattle.pool_trial.specs.Tops.{top}
use Rattle.pool_trial.specs.declared.tables.Tables.{Tables}

pub record Lending : Type 0 where
  pub kind : PoolKind
  pub stock : Tables
  pub device : Making

abbrev pub lend : PoolKind → Tables → Making → Lending
lend k s m = record { kind = k; stock = s; device = m }

abbrev pub held_of : Lending → ℕ
held_of l = length l.stock.members

-- The tables have room for 256 members, which come from the free stack and then from the device.
abbrev pub more_of : Lending → ℕ
more_of l = min (256 - length l.stock.members) (length l.stock.free + l.device.makeable)

-- One member more.
abbrev pub joined : Lending → Lending
joined l =
    cond (nat_lt 0 (length l.stock.free))
    (lend l.kind (pushed (popped l.stock) (top l.stock.free)) l.device)
    (lend l.kind (pushed l.stock (length l.device.made)) (one_made l.kind l.device))

abbrev pub lending : Lending → ℕ → Lending
lending l i = cond (gives (held_of l) (more_of l) i) (joined l) l
