-- The entries of a log, by those of each kind.
use Rattle.std.proofs.Common.{◌≡◌, ◌≢◌, ℕ, ◌<◌, List, [], ◌∷◌, Some, Contains, AllPairs, refl, sym, ap, subst, arith}
use Rattle.radio_model.specs.declared.sending.Sending.{Sending}
use Rattle.radio_model.specs.OnAir.{Hearing, Tuning}
use Rattle.lwb_base.proofs.Elements.{in_filter, filter_from, pairs_cons, pairs_tail, pairs_head}
use Rattle.air_log.specs.declared.entry.Entry.{Entry}
use Rattle.air_log.specs.declared.entry.Entry.TheVariants.{Sent, Heard, Tuned}
use Rattle.air_log.specs.declared.entry.HeardEntry.{HeardEntry}
use Rattle.air_log.specs.declared.entry.TunedEntry.{TunedEntry}
use Rattle.air_log.specs.Courses.{hearing_of}
use Rattle.air_log.specs.DeviceStates.{tuning_of}
use Rattle.air_log.specs.Entries.{sending_in, hearing_in, tuning_in, heard_entry, sendings_of, hearings_of, tunings_of}
use Rattle.law_one_log.specs.OneLog.{SamePlace}

-- not of one node and one start
abbrev pub SendingsApart : Sending → Sending → Type 0
SendingsApart x y = x.node ≡ y.node → x.start ≢ y.start

abbrev pub TuningsApart : Tuning → Tuning → Type 0
TuningsApart d e = d.node ≡ e.node → d.start ≢ e.start

abbrev pub HearingsApart : Hearing → Hearing → Type 0
HearingsApart g h = g.node ≡ h.node → g.sending.start ≢ h.sending.start

-- where this is said of two receptions
module _ (H : Hearing → Hearing → Type 0) where
  abbrev pub EntriesApart : Entry → Entry → Type 0
  EntriesApart (Sent x) (Sent y) = SendingsApart x y
  EntriesApart (Sent x) (Heard h) = Unit {0}
  EntriesApart (Sent x) (Tuned e) = Unit {0}
  EntriesApart (Heard g) (Sent y) = Unit {0}
  EntriesApart (Heard g) (Heard h) = H (hearing_of g) (hearing_of h)
  EntriesApart (Heard g) (Tuned e) = Unit {0}
  EntriesApart (Tuned d) (Sent y) = Unit {0}
  EntriesApart (Tuned d) (Heard h) = Unit {0}
  EntriesApart (Tuned d) (Tuned e) = TuningsApart (tuning_of d) (tuning_of e)

  module _ (air : List Entry) where
    sent_first : (x : Sending) → AllPairs SendingsApart (x ∷ sendings_of air) → (e : Entry) → Contains air e → EntriesApart (Sent x) e
    sent_first x all (Sent y) there =
        pairs_head SendingsApart x (sendings_of air) all y
        (in_filter sending_in air (Sent y) y there refl)
    sent_first x all (Heard h) there = tt
    sent_first x all (Tuned e) there = tt

    heard_first : (g : HeardEntry) → AllPairs H (hearing_of g ∷ hearings_of air) → (e : Entry) → Contains air e → EntriesApart (Heard g) e
    heard_first g all (Sent y) there = tt
    heard_first g all (Heard h) there =
        pairs_head H (hearing_of g) (hearings_of air) all (hearing_of h) (in_filter hearing_in air (Heard h) (hearing_of h) there refl)
    heard_first g all (Tuned e) there = tt

    tuned_first : (d : TunedEntry) → AllPairs TuningsApart (tuning_of d ∷ tunings_of air) → (e : Entry) → Contains air e → EntriesApart (Tuned d) e
    tuned_first d all (Sent y) there = tt
    tuned_first d all (Heard h) there = tt
    tuned_first d all (Tuned e) there =
        pairs_head TuningsApart (tuning_of d) (tunings_of air) all (tuning_of e) (in_filter tuning_in air (Tuned e) (tuning_of e) there refl)

  pub all_apart : (air : List Entry) → AllPairs SendingsApart (sendings_of air) → AllPairs H (hearings_of air) → AllPairs TuningsApart (tunings_of air)
      → AllPairs EntriesApart air
  all_apart [] sent heard tuned = λ i j d less within. absurd (omega (arith, within))
  all_apart (Sent x ∷ air) sent heard tuned =
      pairs_cons EntriesApart (Sent x) air (sent_first air x sent)
      (all_apart air (pairs_tail SendingsApart x (sendings_of air) sent) heard tuned)
  all_apart (Heard g ∷ air) sent heard tuned =
      pairs_cons EntriesApart (Heard g) air (heard_first air g heard)
      (all_apart air sent (pairs_tail H (hearing_of g) (hearings_of air) heard) tuned)
  all_apart (Tuned d ∷ air) sent heard tuned =
      pairs_cons EntriesApart (Tuned d) air (tuned_first air d tuned)
      (all_apart air sent heard (pairs_tail TuningsApart (tuning_of d) (tunings_of air) tuned))

-- entries of which no two receptions are the same
abbrev pub Other : Hearing → Hearing → Type 0
Other g h = g ≢ h

not_itself : (e : Entry) → EntriesApart Other e e → ⊥
not_itself (Sent x) apart = apart refl refl
not_itself (Heard h) apart = apart refl
not_itself (Tuned e) apart = apart refl refl

pub apart_differ : (d e : Entry) → EntriesApart Other d e → d ≢ e
apart_differ d e apart is = not_itself d (subst (λ (x : Entry). EntriesApart Other d x) (sym is) apart)

-- entries of which no two receptions are of one node and one start
other_kind : (k n : ℕ) → k < n → k ≡ n → ⊥
other_kind k n less same = omega (arith, less, same)

pub apart_placed : (d e : Entry) → EntriesApart HearingsApart d e → SamePlace d e → ⊥
apart_placed (Sent x) (Sent y) apart same = apart same.node same.start
apart_placed (Sent x) (Heard h) apart same = other_kind 0 1 (omega arith) same.kind
apart_placed (Sent x) (Tuned e) apart same = other_kind 0 2 (omega arith) same.kind
apart_placed (Heard g) (Sent y) apart same = other_kind 0 1 (omega arith) (sym same.kind)
apart_placed (Heard g) (Heard h) apart same = apart same.node same.start
apart_placed (Heard g) (Tuned e) apart same = other_kind 1 2 (omega arith) same.kind
apart_placed (Tuned d) (Sent y) apart same = other_kind 0 2 (omega arith) (sym same.kind)
apart_placed (Tuned d) (Heard h) apart same = other_kind 1 2 (omega arith) (sym same.kind)
apart_placed (Tuned d) (Tuned e) apart same = apart same.node same.start

-- an entry is there where what it says is
module _ (air : List Entry) where
  pub sent_there : (x : Sending) → Contains (sendings_of air) x → Contains air (Sent x)
  sent_there x there = let w = filter_from sending_in air x there in by_entry w.0 w.1 w.2
    where
      by_entry : (e : Entry) → Contains air e → sending_in e ≡ Some x → Contains air (Sent x)
      by_entry (Sent y) at is = let same : y ≡ x = cc in subst (Contains air) (ap Sent same) at
      by_entry (Heard h) at is = cc
      by_entry (Tuned e) at is = cc

  abbrev entry_of : Hearing → Entry
  entry_of h = heard_entry h.node h.sending

  heard_there : (g : HeardEntry) → Contains (hearings_of air) (hearing_of g) → Contains air (Heard g)
  heard_there g there = let w = filter_from hearing_in air (hearing_of g) there in by_entry w.0 w.1 w.2
    where
      by_entry : (e : Entry) → Contains air e → hearing_in e ≡ Some (hearing_of g) → Contains air (Heard g)
      by_entry (Sent y) at is = cc
      by_entry (Heard h) at is = let same : hearing_of h ≡ hearing_of g = cc in subst (Contains air) (ap entry_of same) at
      by_entry (Tuned e) at is = cc

  abbrev tuned_entry : Tuning → Entry
  tuned_entry e = Tuned (record { rank = e.rank; node = e.node; start = e.start; end = e.end })

  tuned_there : (d : TunedEntry) → Contains (tunings_of air) (tuning_of d) → Contains air (Tuned d)
  tuned_there d there = let w = filter_from tuning_in air (tuning_of d) there in by_entry w.0 w.1 w.2
    where
      by_entry : (e : Entry) → Contains air e → tuning_in e ≡ Some (tuning_of d) → Contains air (Tuned d)
      by_entry (Sent y) at is = cc
      by_entry (Heard h) at is = cc
      by_entry (Tuned e) at is = let same : tuning_of e ≡ tuning_of d = cc in subst (Contains air) (ap tuned_entry same) at

pub also_there : (a b : List Entry) → ((x : Sending) → Contains (sendings_of a) x → Contains (sendings_of b) x)
    → ((h : Hearing) → Contains (hearings_of a) h → Contains (hearings_of b) h) → ((e : Tuning) → Contains (tunings_of a) e → Contains (tunings_of b) e)
    → (e : Entry) → Contains a e → Contains b e
also_there a b sent heard tuned (Sent x) there = sent_there b x (sent x (in_filter sending_in a (Sent x) x there refl))
also_there a b sent heard tuned (Heard g) there = heard_there b g (heard (hearing_of g) (in_filter hearing_in a (Heard g) (hearing_of g) there refl))
also_there a b sent heard tuned (Tuned d) there = tuned_there b d (tuned (tuning_of d) (in_filter tuning_in a (Tuned d) (tuning_of d) there refl))
