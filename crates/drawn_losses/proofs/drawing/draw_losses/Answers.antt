use Rattle.std.proofs.Common.{ap, sym}
use Rattle.link_trace.specs.Passes.{Lines, captured}
use Rattle.drawn_losses.proofs.drawing.draw_losses.Goals as goal

pub losses_in_run-requires-clause-captures : goal.losses_in_run-requires-clause-captures
losses_in_run-requires-clause-captures c f j k v = ap (λ (t : Lines). captured t f j k v) (sym c.requires.lines)
