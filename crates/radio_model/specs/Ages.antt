-- The ended transmissions that a node keeps, the oldest first.
use Rattle.std.specs.Prelude.{ℕ, ◌<◌, ◌≤◌, List, All}
use Rattle.std.specs.List.{AllPairs}
use Rattle.radio_model.specs.declared.sending.Sending.{Sending}

-- each ended at or after the ends of those before it
abbrev pub ByEnd : List Sending → Type 0
ByEnd ys = AllPairs (λ y z. y.end ≤ z.end) ys

-- all began before this tick and are over by it, and they are by their ends
pub record IsAged (now : ℕ) (ys : List Sending) : Type 0 where
  pub over : All (λ y. (y.start < now) × (y.end ≤ now)) ys
  pub by_end : ByEnd ys
