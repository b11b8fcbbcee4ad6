use Rattle.std.proofs.Common.{ℕ, List, sym, subst}
use Rattle.link_trace.specs.Masks.{IsMask}
use Rattle.link_trace.proofs.MaskBits.{found_only, found_none}
use Rattle.radio_model.specs.Receptions.{arrives}
use Rattle.radio_model.proofs.receivers.reach_of.Goals as goal

pub returns-in-Ok : goal.returns-in-Ok
returns-in-Ok c =
    let nodes = c.args.nodes.now in
    let y = c.args.y.now in
    record {
      from = found_only nodes c.requires.nodes.ascending y.node c.in-Ok.place c.with.result c.in-Ok.ensures.bound c.with.ensures.set
          c.with.ensures.others c.in-Ok.ensures.position;
      to = subst (λ (ns : List ℕ). IsMask (λ v. arrives c.args.profile.now c.args.trace.now.lines v y) ns c.reached_from.result)
          (sym c.requires.sealed) c.reached_from.ensures;
    }

pub returns-in-Err : goal.returns-in-Err
returns-in-Err c = record {
  from = found_none c.args.nodes.now c.requires.nodes.ascending c.args.y.now.node c.in-Err.field-0 c.in-Err.ensures.position;
  to = c.reached_by_other.ensures;
}
