use Rattle.std.proofs.Common.{◌++◌, List, [], filter_map, option_to_list, take, sym, subst, arith}
use Rattle.lwb_base.proofs.Lists.{filter_map_more}
use Rattle.radio_model.specs.Meetings.{IsBrought, rival_to}
use Rattle.radio_model.specs.declared.brought.Brought.{Brought}
use Rattle.radio_model.specs.declared.rivals.Rival.{Rival}
use Rattle.radio_model.proofs.Crowds.{nothing_comes, both_come}
use Rattle.radio_model.proofs.EndedSendings.{no_rivals}
use Rattle.radio_model.proofs.RivalLists.{rivals_sending, rivals_ended}
use Rattle.radio_model.proofs.brought.brought_from.Goals as goal

pub loop-i-init : goal.loop-i-init
loop-i-init g c =
    let lines = g.M.Links.lines c.args.links.now in
    let nodes = g.M.Links.nodes c.args.links.now in
    let st = c.args.station.now in
    record {
      brought = subst (λ (rs : List Rival). IsBrought lines nodes c.args.among rs c.none-brought.result)
          (sym (no_rivals c.args.profile.now c.args.x.now st (take c.first_after-i.result st.ended.items) c.first_after-i.ensures.before))
          (subst (λ (w : Brought). IsBrought lines nodes c.args.among [] w) (sym c.none-brought.ensures) (nothing_comes lines nodes c.args.among));
      within = c.len-i-end.ensures.len;
    }

pub loop-i-preserved : goal.loop-i-preserved
loop-i-preserved g c =
    let lines = g.M.Links.lines c.args.links.now in
    let nodes = g.M.Links.nodes c.args.links.now in
    let st = c.args.station.now in
    let f = rival_to c.args.profile.now c.args.x.now st in
    let i = c.loop-i.i in
    let y = c.ended_at-y.result.now in
    let now = filter_map f (take i st.ended.items) in
    record {
      brought =
          subst (λ (rs : List Rival). IsBrought lines nodes c.args.among rs c.with-brought.result)
          (sym (filter_map_more f st.ended.items i y (omega (arith, c.loop-i.invariant.within, c.loop-i-test.true)) c.ended_at-y.ensures))
          (subst (λ (w : Brought). IsBrought lines nodes c.args.among (now ++ option_to_list (f y)) w) (sym c.with-brought.ensures)
          (both_come lines nodes c.args.among now (option_to_list (f y)) c.loop-i.brought c.brought_with.result c.loop-i.invariant.brought
          c.brought_with.ensures));
      within = c.loop-i.invariant.within;
    }

pub returns-in-Some : goal.returns-in-Some
returns-in-Some g c =
    let lines = g.M.Links.lines c.args.links.now in
    let nodes = g.M.Links.nodes c.args.links.now in
    let p = c.args.profile.now in
    let x = c.args.x.now in
    let st = c.args.station.now in
    let now = filter_map (rival_to p x st) (take c.loop-i.i st.ended.items) in
    let last = option_to_list (rival_to p x st c.in-Some.y) in
    subst (λ (rs : List Rival). IsBrought lines nodes c.args.among rs c.with.result)
    (sym (rivals_sending p x st c.loop-i.i (omega (arith, c.loop-i.invariant.within, c.loop-i-test.false)) c.in-Some.y c.in-Some.is))
    (subst (λ (w : Brought). IsBrought lines nodes c.args.among (now ++ last) w) (sym c.with.ensures)
    (both_come lines nodes c.args.among now last c.loop-i.brought c.brought_with-in-Some.result c.loop-i.invariant.brought c.brought_with-in-Some.ensures))

pub returns-in-None : goal.returns-in-None
returns-in-None g c =
    let p = c.args.profile.now in
    let st = c.args.station.now in
    subst (λ (rs : List Rival). IsBrought (g.M.Links.lines c.args.links.now) (g.M.Links.nodes c.args.links.now) c.args.among rs c.loop-i.brought)
    (sym (rivals_ended p c.args.x.now st c.loop-i.i (omega (arith, c.loop-i.invariant.within, c.loop-i-test.false)) c.in-None.is)) c.loop-i.invariant.brought
