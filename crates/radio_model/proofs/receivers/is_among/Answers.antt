use Rattle.std.proofs.lemmas.Bool.{false≢true}
use Rattle.radio_model.proofs.ReceiverMasks.{found_among, none_among}
use Rattle.radio_model.proofs.receivers.is_among.Goals as goal

pub returns-in-Ok : goal.returns-in-Ok
returns-in-Ok c =
    found_among c.args.nodes.now c.requires.ascending c.args.node c.args.places c.in-Ok.place c.in-Ok.ensures.bound c.in-Ok.ensures.position
    c.has.result c.has.ensures

pub returns-in-Err : goal.returns-in-Err
returns-in-Err c = (
  λ so. absurd (false≢true so),
  λ among. absurd (none_among c.args.nodes.now c.requires.ascending c.args.node c.args.places c.in-Err.field-0 c.in-Err.ensures.position among),
)
