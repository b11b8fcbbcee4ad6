-- Up to its closing slot a round changes nobody's tune: an opening leads nobody to another frame.
use Rattle.std.proofs.Common.{◌≡◌, ◌≤◌, ◌==◌, ℕ, Bool, true, false, Option, Some, None, is_some, if◌then◌else◌, refl, sym, ◌∙◌, ap, subst}
use Rattle.law_times.proofs.Words.{false≢true, Plan, Schedule, ScenarioParts, Part, Opening, DataSlot, Contention, Closing, Tune, Core, Setup, opening_accepted}
use Rattle.law_times.proofs.Words.{closing_accepted, last_slot, opening, Message, ScheduleOf, DataOf, RequestOf, opened_slot, closed_slot, hosts_now}
use Rattle.law_times.proofs.Words.{same_schedule, state_at, before_slot, setup_of, is_closing, before_closing, data_no_schedule, contention_no_schedule}
use Rattle.law_times.proofs.Settings.{tune_of}
use Rattle.law_times.proofs.SlotInvariants.{keeps}

-- a schedule, if the message is one, that opens a round
abbrev OpensOnly : Message → Type 0
OpensOnly (ScheduleOf y) = (y.gap == 0) ≡ true
OpensOnly (DataOf d) = Unit {0}
OpensOnly (RequestOf a) = Unit {0}

says : (q : Setup) (f : ℕ) (part : Part) (c : Core) (m : Message) → is_closing part ≡ false → (opened_slot q f part c).message ≡ Some m → OpensOnly m
says q f part c (DataOf d) early said = tt
says q f part c (RequestOf a) early said = tt
says q f Closing c (ScheduleOf y) early said = absurd (false≢true (sym early))
says q f (DataSlot owner) c (ScheduleOf y) early said = absurd (data_no_schedule q f owner c y said)
says q f (Contention i) c (ScheduleOf y) early said = absurd (contention_no_schedule q f i c y said)
says q f Opening c (ScheduleOf y) early said = by_test (hosts_now f c) said
  where
    by_test : (b : Bool) → (if b then Some (ScheduleOf (opening c.plan)) else None) ≡ Some (ScheduleOf y) → (y.gap == 0) ≡ true
    by_test false said = absurd (cc)
    by_test true said = subst (λ (x : Schedule). (x.gap == 0) ≡ true) (same_schedule (opening c.plan) y said) refl

opens : (q : Setup) (f : ℕ) (part : Part) (c : Core) → is_closing part ≡ false → (opened_slot q f part c).core.tune ≡ c.tune
opens q f Opening c early = refl
opens q f (DataSlot owner) c early = refl
opens q f (Contention i) c early = refl
opens q f Closing c early = absurd (false≢true (sym early))

closes : (q : Setup) (f : ℕ) (part : Part) (b : Bool) (c : Core) (o : Option Message) → ((m : Message) → o ≡ Some m → OpensOnly m)
    → (closed_slot q f part b c o).core.tune ≡ c.tune
closes q f part b c (Some (ScheduleOf y)) told = by_gap (y.gap == 0) (told (ScheduleOf y) refl)
  where
    by_gap : (t : Bool) → t ≡ true → (if t then opening_accepted q.id f y c else closing_accepted q.id f y c).tune ≡ c.tune
    by_gap true opens = refl
    by_gap false opens = absurd (false≢true opens)
closes q f part b c (Some (RequestOf a)) told = refl
closes q f Opening b c None told = refl
closes q f (DataSlot owner) b c None told = refl
closes q f (Contention i) b c None told = refl
closes q f Closing b c None told = refl
closes q f Opening b c (Some (DataOf d)) told = refl
closes q f (DataSlot owner) b c (Some (DataOf d)) told = refl
closes q f (Contention i) b c (Some (DataOf d)) told = refl
closes q f Closing b c (Some (DataOf d)) told = refl

module _ (s : ScenarioParts) (rank f : ℕ) (p : Plan) where
  pub tunes_stay : (j : ℕ) → j ≤ last_slot p → (v : ℕ) → tune_of (before_slot s rank f p (state_at s f) j v) ≡ tune_of (state_at s f v)
  tunes_stay =
      keeps s rank f p (λ part. is_closing part ≡ false) (λ v x. tune_of x ≡ tune_of (state_at s f v)) (λ v part m. OpensOnly m)
      (λ v part c m early member rightful same said. says (setup_of s v) f part c m early said)
      (λ v part c o early member same told.
      ap (λ (t : Tune). Some t) (closes (setup_of s v) f part (is_some (opened_slot (setup_of s v) f part c).message)
      (opened_slot (setup_of s v) f part c).core o
      (λ m is. (told m is).said) ∙ opens (setup_of s v) f part c early) ∙ same)
      (λ v part c m early scanning same told.
      ap (λ (t : Tune). Some t) (closes (setup_of s v) f part false c (Some m) (λ n is. only m n is told.said)) ∙ same)
      (last_slot p) (λ j early. before_closing p j early) (λ v. refl)
    where
      only : (m n : Message) → Some m ≡ Some n → OpensOnly m → OpensOnly n
      only m n is opens = let same : m ≡ n = cc in subst OpensOnly same opens
