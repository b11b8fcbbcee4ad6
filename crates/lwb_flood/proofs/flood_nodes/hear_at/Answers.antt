use Rattle.std.proofs.Common.{ℕ, sym, ◌∙◌, ap, inl, inr}
use Rattle.glossy_relay.specs.declared.flood.Reply.{Reply}
use Rattle.lwb_flood.specs.declared.member.Act.{Act}
use Rattle.lwb_flood.specs.declared.member.Act.TheVariants.{Waits}
use Rattle.lwb_flood.specs.FloodWorlds.{act_by}
use Rattle.lwb_flood.proofs.FloodHearers.{heard_at}
use Rattle.lwb_flood.proofs.flood_nodes.hear_at.Goals as goal

pub returns-in-Relay : goal.returns-in-Relay
returns-in-Relay g c =
    heard_at
    (g.C.DriftClock.readings c.args.clock.now) c.args.x.now c.args.members.now.items c.args.place c.index_mut-member.result.now c.heard.new.self
    c.heard.result (Waits c.turn_bounds.result c.in-Relay.packet)
    c.requires.ascend c.requires.place c.index_mut-member.ensures.value c.heard.ensures.state c.heard.ensures.reply
    (ap (λ (t : ℕ). Waits t c.in-Relay.packet) c.turn_bounds.ensures.value
    ∙ ap (λ (r : _). act_by (g.C.DriftClock.readings c.args.clock.now) c.args.x.now.end r c.index_mut-member.result.now.act) (sym c.in-Relay.is))

pub returns-in-Keep : goal.returns-in-Keep
returns-in-Keep g c =
    let m = c.index_mut-member.result.now in
    let by : Reply → Act = λ r. act_by (g.C.DriftClock.readings c.args.clock.now) c.args.x.now.end r m.act in
    heard_at (g.C.DriftClock.readings c.args.clock.now) c.args.x.now c.args.members.now.items c.args.place m c.heard.new.self c.heard.result m.act
    c.requires.ascend c.requires.place c.index_mut-member.ensures.value c.heard.ensures.state c.heard.ensures.reply
    (elim c.in-Keep.is [ inl keep ↦ ap by (sym keep) | inr ignore ↦ ap by (sym ignore) ])
