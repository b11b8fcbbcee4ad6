use Rattle.std.proofs.Common.{◌≡◌, ◌<◌, ◌*◌, ◌++◌, ◌∷◌, [], AllPairs, Contains, inl, get_or, length, ap, sym, subst, ◌∙◌, Bool, List, true, false}
use Rattle.lwb_base.specs.declared.limits.TheConstants.{PLACES_BY_ID}
use Rattle.radio_model.specs.Hearing.{Before}
use Rattle.radio_model.specs.OnAir.{Sending}
use Rattle.air_log.specs.Courses.{hearing_of}
use Rattle.air_check.specs.Flags.{AreFlags, IsGivenAndMissing}
use Rattle.air_check.proofs.wrong.take_in.Goals as goal

pub place_of-requires : goal.place_of-requires
place_of-requires c = subst (AllPairs Before) (sym c.deref.ensures.value) c.requires.searchable.in_order

pub is_due-requires-clause-searchable : goal.is_due-requires-clause-searchable
is_due-requires-clause-searchable c = c.requires.searchable

pub is_due-requires-clause-size : goal.is_due-requires-clause-size
is_due-requires-clause-size c = ap length c.deref-2.ensures.value ∙ c.requires.size

pub is_due-requires-clause-place : goal.is_due-requires-clause-place
is_due-requires-clause-place c = subst (λ (xs : List Sending). c.in-Some.k < length xs) c.deref.ensures.value c.in-Some.ensures.some.0

pub receive-requires-clause-in_order : goal.receive-requires-clause-in_order
receive-requires-clause-in_order c = subst (AllPairs Before) (sym c.deref-3.ensures.value) c.requires.searchable.in_order

pub receive-requires-clause-size : goal.receive-requires-clause-size
receive-requires-clause-size c = c.requires.size ∙ ap (λ (xs : List Sending). length xs * PLACES_BY_ID) (sym c.deref-3.ensures.value)

pub returns-in_default : goal.returns-in_default
returns-in_default c =
    λ air hs is are.
    inl (λ given. c.in_default.ensures.none (subst (λ (xs : List Sending). Contains xs (hearing_of c.args.h.now).sending) (sym c.deref.ensures.value)
    (is.all_sent (hearing_of c.args.h.now).sending given.heard.sent)))

pub returns-then-not-is_due : goal.returns-then-not-is_due
returns-then-not-is_due c =
    λ air hs is are.
    let s = c.args.s.now in
    let sent = c.args.index.now.sent.items in
    let h = hearing_of c.args.h.now in
    let k = c.in-Some.k in
    let at : get_or sent k h.sending ≡ h.sending =
    ap (λ (xs : List Sending). get_or xs k h.sending) (sym c.deref.ensures.value) ∙ c.in-Some.ensures.some.1 h.sending in
    subst (λ (x : Sending). IsGivenAndMissing s air hs h.node x false) at
    (subst (λ (b : Bool). IsGivenAndMissing s air hs h.node (get_or sent k h.sending) b) c.if-not-is_due.true
    (c.is_due.ensures air hs h.sending is (subst (λ (fs : List Bool). AreFlags sent hs fs) (sym c.deref-2.ensures.value) are)))

pub returns : goal.returns
returns c =
    λ air hs is are.
    let s = c.args.s.now in
    let sent = c.args.index.now.sent.items in
    let h = hearing_of c.args.h.now in
    let k = c.in-Some.k in
    let at : get_or sent k h.sending ≡ h.sending =
    ap (λ (xs : List Sending). get_or xs k h.sending) (sym c.deref.ensures.value) ∙ c.in-Some.ensures.some.1 h.sending in
    let due = subst (λ (x : Sending). IsGivenAndMissing s air hs h.node x true) at
    (subst (λ (b : Bool). IsGivenAndMissing s air hs h.node (get_or sent k h.sending) b) c.if-not-is_due.false
    (c.is_due.ensures air hs h.sending is (subst (λ (fs : List Bool). AreFlags sent hs fs) (sym c.deref-2.ensures.value) are))) in (
      subst (λ (xs : List Sending). AreFlags xs (hs ++ h ∷ []) c.receive.new.flags.items) c.deref-3.ensures.value
          (c.receive.ensures hs (subst (λ (xs : List Sending). AreFlags xs hs c.args.flags.now.items) (sym c.deref-3.ensures.value) are)),
      due.0,
      due.1,
    )
