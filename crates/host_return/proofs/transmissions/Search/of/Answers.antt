use Rattle.std.proofs.Common.{ℕ, List, subst, ◌∙◌}
use Rattle.radio_model.specs.Reaches.{AreSearchable}
use Rattle.host_return.proofs.transmissions.Search.of.Goals as goal

pub transmissions_of-requires-clause-ids : goal.transmissions_of-requires-clause-ids
transmissions_of-requires-clause-ids c = c.deref.ensures.value ∙ c.in_ok-nodes.ensures.ids

pub transmissions_of-requires-clause-trails : goal.transmissions_of-requires-clause-trails
transmissions_of-requires-clause-trails c = c.requires.lawful.trails

pub returns-clause-searchable : goal.returns-clause-searchable
returns-clause-searchable c =
    let s = c.args.s.now in
    record {
      said = c.requires.said;
      ids = c.in_ok-nodes.ensures.ids;
      sent = subst (λ (ns : List ℕ). AreSearchable s.profile s.trace ns c.in_ok-sent.sent) c.deref.ensures.value c.in_ok-sent.ensures.searchable;
    }
