use Rattle.std.proofs.Common.{◌∙◌, sym, ap, not}
use Rattle.radio_model.specs.Stations.{on_air}
use Rattle.radio_model.proofs.Marked.{none_overlaps}
use Rattle.radio_model.proofs.listeners.was_quiet.Goals as goal

pub returns-then-is_aside : goal.returns-then-is_aside
returns-then-is_aside c =
    c.if-is_aside.true
    ∙ sym (ap not (none_overlaps c.args.x.now (on_air c.args.at.now) c.args.mark.now c.requires.mark (sym c.is_aside.ensures ∙ c.if-is_aside.true)))
