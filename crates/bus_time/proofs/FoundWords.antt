-- The words of a round are of the schedules that its node received, and the first of them is that by which data is stamped.
use Rattle.std.proofs.Common.{◌≡◌, ℕ, ◌+◌, ◌<◌, ◌≤◌, inl, inr, List, Contains, Bool, true}
use Rattle.std.proofs.Common.{false, ◌==◌, if◌then◌else◌, filter_map, Some, None, Option, refl, sym, ◌∙◌, ap, subst}
use Rattle.std.proofs.Common.{arith, true≢false, eq-eqb}
use Rattle.std.specs.Prelude.{is_some}
use Rattle.std.proofs.lemmas.Bool.{cases_lt}
use Rattle.std.proofs.lemmas.Bool.Decides.{nat_tests}
use Rattle.lwb_base.specs.Messages.{Schedule}
use Rattle.lwb_packets.specs.declared.kind.Kind.TheVariants as kinds
use Rattle.schedule_codec.specs.Reading.{schedule_of}
use Rattle.bus_rules.specs.Slots.{Message, ScheduleOf, DataOf, RequestOf}
use Rattle.lwb_member.specs.Said.{message_of}
use Rattle.radio_model.specs.declared.sending.Sending.{Sending}
use Rattle.radio_model.specs.Hearing.{frame_of_sending}
use Rattle.radio_model.specs.OnAir.{Hearing}
use Rattle.lwb_base.proofs.Elements.{in_filter, filter_from}
use Rattle.scenario_text.specs.ScenarioParts.{ScenarioParts}
use Rattle.air_log.specs.declared.entry.Entry.{Entry}
use Rattle.air_log.specs.Entries.{hearing_in, hearings_of, HasHeardEntry}
use Rattle.law_trails.specs.PacketKinds.{SaysOfKind, kind_of_message}
use Rattle.law_trails.proofs.SaidPackets.{kind_says, schedule_read}
use Rattle.bus_time.specs.Stamps.{IsOfFrame, IsAhead}
use Rattle.bus_time.specs.Stamping.{IsWordFor}
use Rattle.bus_time.specs.Words.{Note, IsFirstWord, word_comes_before}
use Rattle.bus_time.specs.Reading.{now_in, ahead_in, now_by, ahead_by, note_now, note_ahead, note_of, round_ahead, word_of}
use Rattle.bus_time.specs.declared.words.Round.{Round}
use Rattle.bus_time.specs.declared.words.Word.{Word}
use Rattle.bus_time.proofs.ReadMore.{some_gap}

-- a schedule is what its bytes say
pub schedule_said : (q : List ℕ) (y : Schedule) → schedule_of q ≡ Some y → message_of q ≡ Some (ScheduleOf y)
schedule_said q y is = of_kind (kind_says kinds.Schedule q (ap (λ (o : Option Schedule). is_some o) is))
  where
    of_message : (m : Message) → message_of q ≡ Some m → kind_of_message m ≡ kinds.Schedule → message_of q ≡ Some (ScheduleOf y)
    of_message (ScheduleOf z) says kind = (
        let read : schedule_of q ≡ Some z = schedule_read q z says in
        let same : z ≡ y = cc in
        says ∙ ap (λ (u : Schedule). Some (ScheduleOf u)) same
        )
    of_message (DataOf d) says kind = absurd cc
    of_message (RequestOf a) says kind = absurd cc

    of_kind : SaysOfKind kinds.Schedule q → message_of q ≡ Some (ScheduleOf y)
    of_kind k = of_message k.message k.says k.of_kind

-- of two words, of which none of the second comes before the first
no_earlier : (u w : Word) → word_comes_before u w ≡ false → u.ahead ≡ w.ahead → w.end ≤ u.end
no_earlier u w later same = elim (cases_lt u.end w.end) [
  | inr other ↦ other
  | inl less ↦ absurd (true≢false (sym (before less) ∙ later))
]
  where
    before : u.end < w.end → word_comes_before u w ≡ true
    before less = grind (arith, nat_tests, less, same)

no_later_frame : (u w : Word) → word_comes_before u w ≡ false → w.ahead ≤ u.ahead
no_later_frame u w later = elim (cases_lt u.ahead w.ahead) [
  | inr other ↦ other
  | inl less ↦ absurd (true≢false (sym (before less) ∙ later))
]
  where
    before : u.ahead < w.ahead → word_comes_before u w ≡ true
    before less = grind (arith, nat_tests, less)

module _ (s : ScenarioParts) (air : List Entry) (x : Sending) where
  -- the round of x at its sender
  abbrev pub own_round : Round
  own_round = record { node = x.node; rank = x.rank; frame = frame_of_sending s.profile x }

  abbrev heard_as : Sending → Hearing
  heard_as h = record { node = x.node; sending = h }

  -- ---- from what was received to notes

  noted_now : (h : Sending) → IsOfFrame s air x h → Contains (filter_map (now_in s.profile) air) (own_round, word_of 0 (heard_as h))
  noted_now h is =
      let e = filter_from hearing_in air (heard_as h) is.heard.there in
      let read = schedule_read h.packet is.heard.schedule is.heard.says in
      let note : now_in s.profile e.0 ≡ Some (note_of s.profile 0 (heard_as h)) = ap (now_by s.profile) e.2 ∙ ap (note_now s.profile (heard_as h)) read in
      let rank = is.heard.channel in
      let frame = is.frame in
      let round : round_ahead s.profile 0 (heard_as h) ≡ own_round =
      ap {A = ℕ} {B = Round} (λ (r : ℕ). record { node = x.node; rank = r; frame = frame_of_sending s.profile h + 0 }) rank
      ∙ ap {A = ℕ} {B = Round} (λ (f : ℕ). record { node = x.node; rank = x.rank; frame = f }) (omega (arith, frame)) in
      subst (λ (r : Round). Contains (filter_map (now_in s.profile) air) (r, word_of 0 (heard_as h))) round
      (in_filter (now_in s.profile) air e.0 (note_of s.profile 0 (heard_as h)) e.1 note)

  noted_ahead : (d : ℕ) (h : Sending) → IsAhead s air x d h → Contains (filter_map (ahead_in s.profile) air) (own_round, word_of d (heard_as h))
  noted_ahead d h is =
      let y = is.heard.schedule in
      let e = filter_from hearing_in air (heard_as h) is.heard.there in
      let read = schedule_read h.packet y is.heard.says in
      let gap = is.heard.gap_is in
      let some = is.some in
      let note : ahead_in s.profile e.0 ≡ Some (note_of s.profile y.gap (heard_as h)) =
      ap (ahead_by s.profile) e.2 ∙ ap (note_ahead s.profile (heard_as h)) read ∙ some_gap s.profile (heard_as h) y (λ none. omega (arith, none, gap, some)) in
      let rank = is.heard.channel in
      let frame = is.frame in
      let round : round_ahead s.profile d (heard_as h) ≡ own_round =
      ap {A = ℕ} {B = Round} (λ (r : ℕ). record { node = x.node; rank = r; frame = frame_of_sending s.profile h + d }) rank
      ∙ ap {A = ℕ} {B = Round} (λ (f : ℕ). record { node = x.node; rank = x.rank; frame = f }) frame in
      subst (λ (r : Round). Contains (filter_map (ahead_in s.profile) air) (r, word_of d (heard_as h))) round
      (subst (λ (g : ℕ). Contains (filter_map (ahead_in s.profile) air) (note_of s.profile g (heard_as h))) gap
      (in_filter (ahead_in s.profile) air e.0 (note_of s.profile y.gap (heard_as h)) e.1 note))

  -- ---- and back

  -- a word of the round of x is of a schedule
  record IsNoteOf (d : ℕ) (w : Word) : Type 0 where
    pub heard : Sending
    pub there : HasHeardEntry air x.node heard
    pub channel : heard.rank ≡ x.rank
    pub schedule : Schedule
    pub says : message_of heard.packet ≡ Some (ScheduleOf schedule)
    pub frame : frame_of_sending s.profile heard + d ≡ frame_of_sending s.profile x
    pub is : w ≡ word_of d (record { node = x.node; sending = heard })

  of_note : (d : ℕ) (g : Hearing) (y : Schedule) (w : Word) → Contains (hearings_of air) g → schedule_of g.sending.packet ≡ Some y
      → note_of s.profile d g ≡ (own_round, w) → IsNoteOf d w
  of_note d g y w there read is =
      let round : round_ahead s.profile d g ≡ own_round = ap (λ (n : Note). n.0) is in
      let node : g.node ≡ x.node = ap (λ (r : Round). r.node) round in
      let word : word_of d g ≡ w = ap (λ (n : Note). n.1) is in
      record {
        heard = g.sending;
        there = subst (λ (v : ℕ). Contains (hearings_of air) (record { node = v; sending = g.sending })) node there;
        channel = ap (λ (r : Round). r.rank) round;
        schedule = y;
        says = schedule_said g.sending.packet y read;
        frame = ap (λ (r : Round). r.frame) round;
        is = sym word;
      }

  now_schedule : (w : Word) (e : Entry) → Contains air e → (g : Hearing) (o : Option Schedule) → hearing_in e ≡ Some g → schedule_of g.sending.packet ≡ o
      → note_now s.profile g o ≡ Some (own_round, w) → IsNoteOf 0 w
  now_schedule w e there g None heard read is = absurd cc
  now_schedule w e there g (Some y) heard read is =
      let note : note_of s.profile 0 g ≡ (own_round, w) = cc in
      of_note 0 g y w (in_filter hearing_in air e g there heard) read note

  now_hearing : (w : Word) (e : Entry) → Contains air e → (o : Option Hearing) → hearing_in e ≡ o → now_by s.profile o ≡ Some (own_round, w) → IsNoteOf 0 w
  now_hearing w e there None heard is = absurd cc
  now_hearing w e there (Some g) heard is = now_schedule w e there g (schedule_of g.sending.packet) heard refl is

  of_now : (w : Word) → Contains (filter_map (now_in s.profile) air) (own_round, w) → IsNoteOf 0 w
  of_now w there = let e = filter_from (now_in s.profile) air (own_round, w) there in now_hearing w e.0 e.1 (hearing_in e.0) refl e.2

  record IsAheadNote (w : Word) : Type 0 where
    pub ahead : ℕ
    pub some : 1 ≤ ahead
    pub note : IsNoteOf ahead w
    pub gap : note.schedule.gap ≡ ahead

  ahead_gap : (w : Word) (g : Hearing) (y : Schedule) (b : Bool) → Contains (hearings_of air) g → schedule_of g.sending.packet ≡ Some y → (y.gap == 0) ≡ b
      → (if b then None else Some (note_of s.profile y.gap g)) ≡ Some (own_round, w) → IsAheadNote w
  unfolding of_note
  ahead_gap w g y true there read test is = absurd cc
  ahead_gap w g y false there read test is =
      let note : note_of s.profile y.gap g ≡ (own_round, w) = cc in
      record {
        ahead = y.gap;
        some = elim (cases_lt 0 y.gap) [ inl more ↦ more | inr none ↦ absurd (true≢false (sym (eq-eqb y.gap 0 (omega (arith, none))) ∙ test)) ];
        note = of_note y.gap g y w there read note;
        gap = refl;
      }

  ahead_schedule : (w : Word) (e : Entry) → Contains air e → (g : Hearing) (o : Option Schedule) → hearing_in e ≡ Some g → schedule_of g.sending.packet ≡ o
      → note_ahead s.profile g o ≡ Some (own_round, w) → IsAheadNote w
  ahead_schedule w e there g None heard read is = absurd cc
  ahead_schedule w e there g (Some y) heard read is = ahead_gap w g y (y.gap == 0) (in_filter hearing_in air e g there heard) read refl is

  ahead_hearing : (w : Word) (e : Entry) → Contains air e → (o : Option Hearing) → hearing_in e ≡ o → ahead_by s.profile o ≡ Some (own_round, w) → IsAheadNote w
  ahead_hearing w e there None heard is = absurd cc
  ahead_hearing w e there (Some g) heard is = ahead_schedule w e there g (schedule_of g.sending.packet) heard refl is

  of_ahead : (w : Word) → Contains (filter_map (ahead_in s.profile) air) (own_round, w) → IsAheadNote w
  of_ahead w there = let e = filter_from (ahead_in s.profile) air (own_round, w) there in ahead_hearing w e.0 e.1 (hearing_in e.0) refl e.2

  -- ---- the first word is of the reference

  pub now_word : (w : Word) → IsFirstWord (filter_map (now_in s.profile) air) own_round (Some w) → w.end < x.start → IsWordFor s air x w
  now_word w is over =
      let note = of_now w is.0 in
      let h = note.heard in
      let frame = note.frame in
      let end : w.end ≡ h.end = ap (λ (u : Word). u.end) note.is in
      let ahead : w.ahead ≡ 0 = ap (λ (u : Word). u.ahead) note.is in
      let here : IsOfFrame s air x h = record {
        gap = note.schedule.gap;
        heard = record { there = note.there; channel = note.channel; schedule = note.schedule; says = note.says; gap_is = refl };
        frame = omega (arith, frame);
        over = omega (arith, over, end);
      } in
      record {
        heard = h;
        reference = record {
          by = inl (
            ahead,
            record {
              is = here;
              first = λ k also. (
                  let none = is.1 (word_of 0 (heard_as k)) (noted_now k also) in
                  let later = no_earlier (word_of 0 (heard_as k)) w none (sym ahead) in
                  omega (arith, later, end)
                  );
            },
          );
        };
        is = subst (λ (d : ℕ). w ≡ word_of d (record { node = x.node; sending = h })) (sym ahead) note.is;
      }

  pub none_now : (o : Option Word) → IsFirstWord (filter_map (now_in s.profile) air) own_round o → ((w : Word) → o ≡ Some w → x.start ≤ w.end)
      → (k : Sending) → IsOfFrame s air x k → ⊥
  none_now None none late k also = none (word_of 0 (heard_as k)) (noted_now k also)
  none_now (Some w) is late k also =
      let ahead : w.ahead ≡ 0 = ap (λ (u : Word). u.ahead) (of_now w is.0).is in
      let later = no_earlier (word_of 0 (heard_as k)) w (is.1 (word_of 0 (heard_as k)) (noted_now k also)) (sym ahead) in
      let after = late w refl in
      let over = also.over in
      omega (arith, later, after, over)

  pub ahead_word : ((k : Sending) → IsOfFrame s air x k → ⊥) → (w : Word) → IsFirstWord (filter_map (ahead_in s.profile) air) own_round (Some w)
      → IsWordFor s air x w
  ahead_word none w is =
      let found = of_ahead w is.0 in
      let note = found.note in
      let h = note.heard in
      let end : w.end ≡ h.end = ap (λ (u : Word). u.end) note.is in
      let ahead : w.ahead ≡ found.ahead = ap (λ (u : Word). u.ahead) note.is in
      let here : IsAhead s air x found.ahead h = record {
        heard = record { there = note.there; channel = note.channel; schedule = note.schedule; says = note.says; gap_is = found.gap };
        some = found.some;
        frame = note.frame;
      } in
      record {
        heard = h;
        reference = record {
          by = inr (
            none,
            record {
              is = subst (λ (d : ℕ). IsAhead s air x d h) (sym ahead) here;
              first = λ k also. (
                  let later = no_earlier (word_of w.ahead (heard_as k)) w (is.1 (word_of w.ahead (heard_as k)) (noted_ahead w.ahead k also)) refl in
                  omega (arith, later, end)
                  );
            },
            λ e k also. no_later_frame (word_of e (heard_as k)) w (is.1 (word_of e (heard_as k)) (noted_ahead e k also)),
          );
        };
        is = subst (λ (d : ℕ). w ≡ word_of d (record { node = x.node; sending = h })) (sym ahead) note.is;
      }

  pub some_ahead : (d : ℕ) (h : Sending) → IsAhead s air x d h → IsFirstWord (filter_map (ahead_in s.profile) air) own_round None → ⊥
  some_ahead d h is none = none (word_of d (heard_as h)) (noted_ahead d h is)
