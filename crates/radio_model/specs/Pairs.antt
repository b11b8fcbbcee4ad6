-- Pairs of a hearer and a sender.
use Rattle.std.specs.Prelude.{ℕ}
use Rattle.radio_model.specs.declared.hearers.Pair.{Pair}

abbrev pub pair_in : Pair → ℕ × ℕ
pair_in p = (p.hearer, p.sender)
