use Rattle.std.proofs.Common.{◌≡◌, ◌≤◌, ◌+◌, Some, true, ℕ, List, [], length, ◌∙◌, sym, ap, subst, arith}
use Rattle.lwb_base.specs.Messages.{Ask}
use Rattle.bus_rules.specs.HostPlans.{HostPlan, answers_to, host_plan}
use Rattle.bus_rules.specs.Tuning.{TuneState, rank_of, hosts, with_due}
use Rattle.bus_rules.specs.declared.tune.Tune.{Tune}
use Rattle.bus_rules.specs.declared.tune.Tune.TheVariants.{Host}
use Rattle.schedule_codec.specs.Spelling.{most_acks}
use Rattle.lwb_member.specs.Members.{Member}
use Rattle.bus_rules.specs.Slots.{Message, ScheduleOf}
use Rattle.lwb_member.proofs.Told.{told_schedule}
use Rattle.lwb_member.specs.Planning.{IsEarly}
use Rattle.lwb_member.specs.Said.{bytes_in_slot}
use Rattle.lwb_member.proofs.HostPlanned.{is_plan, plan_early, gap_in_range, closing_fits, acks_fit, contend_few, host_due}
use Rattle.lwb_member.proofs.member.Member.plan_next.Goals as goal

pub write-requires : goal.write-requires
write-requires c =
    let i = c.self.inside in
    let gap : (1 ≤ c.plan_round-plan.result.gap) × (c.plan_round-plan.result.gap ≤ 4) =
    subst (λ (g : ℕ). (1 ≤ g) × (g ≤ 4)) (sym c.plan_round-plan.ensures.gap) (gap_in_range _ c.args.frame c.serve_own.new.table) in
    let named = contend_few i.profile c.contend.ensures.made in
    let same : i.plan.plan.contend ≡ i.profile.contend =
    (c.self.invariant.hosted (ap (λ (m : Member). hosts m.core.tune) c.self.view_is ∙ c.requires.host)).1 in
    record {
      boot = c.self.invariant.boot;
      gap = gap.1;
      contend = omega (arith, c.contend.ensures.value, named);
      few =
          subst (λ (n : ℕ). length c.answer_kept-acks.result ≤ most_acks n) (sym c.contend.ensures.value)
          (omega (arith, c.answer_kept-acks.ensures.few, ap length c.as_slice.ensures.value, c.self.invariant.few, acks_fit i.profile.contend named));
      acks = c.answer_kept-acks.ensures.ranges;
      place =
          closing_fits c.plan_round-plan.result.gap c.contend.result c.last_slot-slot.result i.plan.plan gap.0 (omega (arith, c.contend.ensures.value, named))
          (same ∙ sym c.contend.ensures.value) c.last_slot-slot.ensures.owners c.last_slot-slot.ensures.value;
    }

pub returns-clause-packet : goal.returns-clause-packet
returns-clause-packet c = rw (← c.self.view_is) (
    let i = c.self.inside in
    let f = c.args.frame in
    let slot = c.last_slot-slot.result in
    let kept_table : c.answer_kept-acks.new.table ≡ (answers_to f i.kept.items i.table).table =
    c.answer_kept-acks.ensures.table ∙ ap (λ (l : List Ask). (answers_to f l i.table).table) c.as_slice.ensures.value in
    let kept_acks : c.answer_kept-acks.result ≡ (answers_to f i.kept.items i.table).acks =
    c.answer_kept-acks.ensures.acks ∙ ap (λ (l : List Ask). (answers_to f l i.table).acks) c.as_slice.ensures.value in
    let rank : c.rank-rank.result ≡ rank_of i.tuner.tune = c.rank-rank.ensures ∙ ap (λ (m : Member). rank_of m.core.tune) (sym c.self.view_is) in
    let is = is_plan i.profile i.id i.boot (rank_of i.tuner.tune) f i.kept.items i.table c.answer_kept-acks.new.table c.serve_own.new.table
    c.plan_round-plan.new.table i.streams c.serve_own.new.streams c.answer_kept-acks.result c.rank-rank.result c.contend.result c.plan_round-plan.result.gap
    c.plan_round-plan.result.owners
    rank c.contend.ensures.value kept_table kept_acks c.serve_own.ensures.table c.serve_own.ensures.streams c.plan_round-plan.ensures.gap
    c.plan_round-plan.ensures.owners c.plan_round-plan.ensures.table in
    let whole : HostPlan = host_plan i.profile i.id i.boot (rank_of i.tuner.tune) f i.kept.items i.table i.streams in
    ap Some c.write.ensures.value ∙ ap (λ (h : HostPlan). Some (bytes_in_slot slot (ScheduleOf (record { plan = h.plan; gap = h.gap })))) is
    ∙ ap (λ (j : ℕ). Some (bytes_in_slot j (ScheduleOf (record { plan = whole.plan; gap = whole.gap })))) c.last_slot-slot.ensures.value)

pub returns-clause-told : goal.returns-clause-told
returns-clause-told c = rw (← c.self.view_is) (
    let i = c.self.inside in
    let f = c.args.frame in
    let slot = c.last_slot-slot.result in
    let kept_table : c.answer_kept-acks.new.table ≡ (answers_to f i.kept.items i.table).table =
    c.answer_kept-acks.ensures.table ∙ ap (λ (l : List Ask). (answers_to f l i.table).table) c.as_slice.ensures.value in
    let kept_acks : c.answer_kept-acks.result ≡ (answers_to f i.kept.items i.table).acks =
    c.answer_kept-acks.ensures.acks ∙ ap (λ (l : List Ask). (answers_to f l i.table).acks) c.as_slice.ensures.value in
    let rank : c.rank-rank.result ≡ rank_of i.tuner.tune = c.rank-rank.ensures ∙ ap (λ (m : Member). rank_of m.core.tune) (sym c.self.view_is) in
    let is = is_plan i.profile i.id i.boot (rank_of i.tuner.tune) f i.kept.items i.table c.answer_kept-acks.new.table c.serve_own.new.table
    c.plan_round-plan.new.table i.streams c.serve_own.new.streams c.answer_kept-acks.result c.rank-rank.result c.contend.result c.plan_round-plan.result.gap
    c.plan_round-plan.result.owners
    rank c.contend.ensures.value kept_table kept_acks c.serve_own.ensures.table c.serve_own.ensures.streams c.plan_round-plan.ensures.gap
    c.plan_round-plan.ensures.owners c.plan_round-plan.ensures.table in
    let whole : HostPlan = host_plan i.profile i.id i.boot (rank_of i.tuner.tune) f i.kept.items i.table i.streams in
    let made : HostPlan → Message = λ h. ScheduleOf (record { plan = h.plan; gap = h.gap }) in
    told_schedule c.write.result _ slot c.write.ensures.reads_back c.write.ensures.value ∙ ap (λ (h : HostPlan). Some (made h)) is)

pub returns-clause-core : goal.returns-clause-core
returns-clause-core c = rw (← c.self.view_is) (
    let i = c.self.inside in
    let f = c.args.frame in
    let kept_table : c.answer_kept-acks.new.table ≡ (answers_to f i.kept.items i.table).table =
    c.answer_kept-acks.ensures.table ∙ ap (λ (l : List Ask). (answers_to f l i.table).table) c.as_slice.ensures.value in
    let kept_acks : c.answer_kept-acks.result ≡ (answers_to f i.kept.items i.table).acks =
    c.answer_kept-acks.ensures.acks ∙ ap (λ (l : List Ask). (answers_to f l i.table).acks) c.as_slice.ensures.value in
    let rank : c.rank-rank.result ≡ rank_of i.tuner.tune = c.rank-rank.ensures ∙ ap (λ (m : Member). rank_of m.core.tune) (sym c.self.view_is) in
    let is = is_plan i.profile i.id i.boot (rank_of i.tuner.tune) f i.kept.items i.table c.answer_kept-acks.new.table c.serve_own.new.table
    c.plan_round-plan.new.table i.streams c.serve_own.new.streams c.answer_kept-acks.result c.rank-rank.result c.contend.result c.plan_round-plan.result.gap
    c.plan_round-plan.result.owners
    rank c.contend.ensures.value kept_table kept_acks c.serve_own.ensures.table c.serve_own.ensures.streams c.plan_round-plan.ensures.gap
    c.plan_round-plan.ensures.owners c.plan_round-plan.ensures.table in
    let host : hosts i.tuner.tune ≡ true = ap (λ (m : Member). hosts m.core.tune) c.self.view_is ∙ c.requires.host in
    let due : with_due (f + c.from.result) i.tuner.tune ≡ Host (rank_of i.tuner.tune) (f + c.plan_round-plan.result.gap) =
    ap (λ (g : ℕ). with_due (f + g) i.tuner.tune) c.from.ensures ∙ host_due i.tuner.tune (f + c.plan_round-plan.result.gap) host in
    let tuned : c.planned.new.self ≡ record i.tuner { tune = Host (rank_of i.tuner.tune) (f + c.plan_round-plan.result.gap) } =
    c.planned.ensures ∙ ap (λ (t : Tune). record i.tuner { tune = t }) due in
    let of : TuneState → List Ask → Member = λ t l. record {
      setup = record { profile = i.profile; id = i.id; own = t.own; ranks = t.ranks; sends = i.sends };
      core = record {
        boot = i.boot;
        tune = t.tune;
        plan = record {
          rank = c.rank-rank.result;
          boot = i.boot;
          contend = c.contend.result;
          acks = c.answer_kept-acks.result;
          owners = c.plan_round-plan.result.owners;
        };
        streams = c.serve_own.new.streams;
        table = c.plan_round-plan.new.table;
        own_slot = i.own_slot;
        kept = l;
      };
    } in
    let by : HostPlan → Member = λ h. record {
      setup = record { profile = i.profile; id = i.id; own = i.tuner.own; ranks = i.tuner.ranks; sends = i.sends };
      core = record {
        boot = i.boot;
        tune = Host (rank_of i.tuner.tune) (f + h.gap);
        plan = h.plan;
        streams = h.streams;
        table = h.table;
        own_slot = i.own_slot;
        kept = [];
      };
    } in
    ap (λ (t : TuneState). of t c.new-self-inside.result.items) tuned
    ∙ ap (λ (l : List Ask). of (record i.tuner { tune = Host (rank_of i.tuner.tune) (f + c.plan_round-plan.result.gap) }) l) c.new-self-inside.ensures
    ∙ ap by is)

pub returns-clause-early : goal.returns-clause-early
returns-clause-early c =
    subst (IsEarly c.args.frame) (sym c.plan_round-plan.ensures.table) (plan_early _ c.args.frame c.serve_own.new.table c.serve_own.ensures.early)
