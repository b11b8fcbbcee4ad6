use Rattle.std.proofs.Common.{◌≡◌, ◌+◌, ◌++◌, ◌∷◌, [], take, sym, ap, subst, ◌∙◌, arith, Bool, List}
use Rattle.std.proofs.lemmas.List.{take_all, take_more}
use Rattle.air_log.specs.declared.entry.Entry.{Entry}
use Rattle.air_log.specs.Entries.{hearings_of}
use Rattle.air_check.specs.Flags.{AreFlags, IsRightNext}
use Rattle.air_check.specs.Verdicts.{AreGiven}
use Rattle.air_check.proofs.RightEntries.{none_wrong, wrong_at}
use Rattle.air_check.proofs.wrong.first_wrong.Goals as goal

pub loop-i-init : goal.loop-i-init
loop-i-init c = record { flags = c.requires.none; right = none_wrong c.args.s.now c.args.air.now }

pub is_right-requires-clause-searchable : goal.is_right-requires-clause-searchable
is_right-requires-clause-searchable c = c.requires.searchable

pub is_right-requires-clause-size : goal.is_right-requires-clause-size
is_right-requires-clause-size c = c.loop-i.invariant.flags.size

pub returns-then-not-is_right-clause-some : goal.returns-then-not-is_right-clause-some
returns-then-not-is_right-clause-some c =
    let s = c.args.s.now in
    let air = c.args.air.now in
    let i = c.loop-i.i in
    let e = c.entry_at.result.now in
    let sent = c.args.index.now.sent.items in
    wrong_at s air i e (omega (arith, c.loop-i-test.true, c.len-i-end.ensures)) c.entry_at.ensures c.loop-i.invariant.right
    (subst (λ (b : Bool). IsRightNext s air sent (take i air) e c.is_right.new.flags.items b) c.if-not-is_right.true
    (c.is_right.ensures air (take i air) c.requires.holds c.loop-i.invariant.flags))

pub loop-i-preserved : goal.loop-i-preserved
loop-i-preserved c =
    let s = c.args.s.now in
    let air = c.args.air.now in
    let i = c.loop-i.i in
    let e = c.entry_at.result.now in
    let sent = c.args.index.now.sent.items in
    let goes = subst (λ (b : Bool). IsRightNext s air sent (take i air) e c.is_right.new.flags.items b) c.if-not-is_right.false
    (c.is_right.ensures air (take i air) c.requires.holds c.loop-i.invariant.flags) in
    let more : take (i + 1) air ≡ take i air ++ e ∷ [] =
    take_more air i e (omega (arith, c.loop-i-test.true, c.len-i-end.ensures)) ∙ ap (λ (x : Entry). take i air ++ x ∷ []) (sym c.entry_at.ensures) in
    record {
      flags = subst (λ (l : List Entry). AreFlags sent (hearings_of l) c.is_right.new.flags.items) (sym more) goes.0;
      right = subst (λ (l : List Entry). AreGiven s air l) (sym more) (goes.1 c.loop-i.invariant.right);
    }

pub returns-clause-none : goal.returns-clause-none
returns-clause-none c =
    let air = c.args.air.now in
    let all : take c.loop-i.i air ≡ air = take_all c.loop-i.i air (omega (arith, c.loop-i-test.false, c.len-i-end.ensures, c.loop-i.auto.i-end)) in
    subst (AreGiven c.args.s.now air) all c.loop-i.invariant.right

pub returns-clause-flags : goal.returns-clause-flags
returns-clause-flags c =
    let air = c.args.air.now in
    let all : take c.loop-i.i air ≡ air = take_all c.loop-i.i air (omega (arith, c.loop-i-test.false, c.len-i-end.ensures, c.loop-i.auto.i-end)) in
    subst (λ (l : List Entry). AreFlags c.args.index.now.sent.items (hearings_of l) c.loop-i.flags.items) all c.loop-i.invariant.flags
