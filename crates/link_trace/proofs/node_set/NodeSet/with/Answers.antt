use Rattle.std.proofs.Common.{ℕ, w64, ap, ◌∙◌}
use Rattle.std.specs.Int.{bit_at}
use Rattle.std.proofs.lemmas.Nat.Bits.{bit_at_set_same, bit_at_set_other}
use Rattle.link_trace.proofs.node_set.NodeSet.with.Goals as goal

pub returns-clause-set : goal.returns-clause-set
returns-clause-set c = bit_at_set_same w64 c.self.inside.word c.args.place c.requires

pub returns-clause-others : goal.returns-clause-others
returns-clause-others c = λ i other. bit_at_set_other w64 c.self.inside.word c.args.place c.requires i other ∙ ap (λ (n : ℕ). bit_at n i) c.self.view_is
