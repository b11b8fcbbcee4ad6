-- What a trail has sent before a tick is what the log has of it.
use Rattle.std.proofs.Common.{◌≡◌, ℕ, zero, suc, ◌+◌, length, ◌<◌, ◌≤◌, ◌↔◌, ◌⊎◌, inl, inr, List, [], ◌∷◌, ◌++◌, Bool, true, false, ◌==◌, if◌then◌else◌, Some}
use Rattle.std.proofs.Common.{None, Option, Contains, refl, sym, ap, subst, arith}
use Rattle.std.proofs.lemmas.Bool.{cond_both, cases_lt, eq-eqb, false≢true}
use Rattle.std.proofs.lemmas.List.Elements.{All-contains, Contains-append_left, Contains-push_cases}
use Rattle.std.proofs.lemmas.List.Sorted.{Contains-permutation, IsPermutation-sym}
use Rattle.lwb_base.specs.Profile.{airtime}
use Rattle.radio_model.specs.declared.sending.Sending.{Sending}
use Rattle.scenario_text.specs.ScenarioParts.{ScenarioParts}
use Rattle.scenario_text.specs.ScenarioFacts.{IsSoundScenario}
use Rattle.scenario_text.specs.FloodParts.{knows}
use Rattle.air_log.specs.declared.entry.Entry.{Entry}
use Rattle.air_log.specs.Entries.{sendings_of}
use Rattle.air_log.specs.Devices.{Device, Listening, OrderedPacket}
use Rattle.air_log.specs.Lawful.{FollowsTrails, heard_by, sent_by}
use Rattle.air_log.specs.TrailEntries.{IsSentBefore}
use Rattle.scenario_text.specs.Setups.{setup_of}
use Rattle.air_log.specs.Trails.{Reception, run_end, begun_by, starts, sending_from, before_start, before_tick}
use Rattle.air_log.proofs.KeptByEvents.{in_tick}
use Rattle.air_log.proofs.SendingsKept.{profile_lasts}
use Rattle.air_log.proofs.TrailSendings.{kept_sent, at_tick}
use Rattle.lwb_base.proofs.Elements.{not_in_none, in_filtered, filtered}
use Rattle.law_trails.specs.TrailLinks.{IsSentBelow, device_in}

-- as before, or one more that starts at the tick
abbrev MoreAt : ℕ → List Sending → List Sending → Type 0
MoreAt t xs ys = (ys ≡ xs) ⊎ ((x : Sending) × (ys ≡ xs ++ x ∷ []) × (x.start ≡ t))

module _ (s : ScenarioParts) (v : ℕ) (clock : ℕ → ℕ) (hs : List Reception) where
  abbrev pub sent : ℕ → List Sending
  sent t = (before_tick s v clock hs t).made.sent

  starts_more : (t : ℕ) (packet : List ℕ) (d : Device) (l : Option Listening) (y : Option Sending)
      → MoreAt t d.made.sent (starts (setup_of s v) t packet d l y).made.sent
  starts_more t packet d None y = inl refl
  starts_more t packet d (Some l) (Some y) = inl refl
  starts_more t packet d (Some l) None = inr (sending_from (setup_of s v) t packet l, refl, refl)

  begun_more : (t : ℕ) (d : Device) (o : Option OrderedPacket) → MoreAt t d.made.sent (begun_by (setup_of s v) t d o).made.sent
  begun_more t d None = inl refl
  begun_more t d (Some o) =
      cond_both (o.tick == t) (starts (setup_of s v) t o.packet d d.listening d.sending) d (λ (e : Device). MoreAt t d.made.sent e.made.sent)
      (λ is. starts_more t o.packet d d.listening d.sending)
      (λ is. inl refl)

  step_more : (t : ℕ) → MoreAt t (sent t) (sent (suc t))
  unfolding before_tick
  step_more t =
      let d = before_tick s v clock hs t in
      let e = before_start s v clock hs t d in
      let same : e.made.sent ≡ d.made.sent = in_tick (λ y. y.made.sent ≡ d.made.sent) s v clock hs t d
      (kept_sent (λ xs. xs ≡ d.made.sent) clock (setup_of s v) t) refl in
      subst (λ (xs : List Sending). MoreAt t xs (begun_by (setup_of s v) t e e.ordered).made.sent) same (begun_more t e e.ordered)

  still_more : (t : ℕ) (xs ys : List Sending) (x : Sending) → MoreAt t xs ys → Contains xs x → Contains ys x
  still_more t xs ys x more there =
      elim more [
        | inl same ↦ subst (λ (l : List Sending). Contains l x) (sym same) there
        | inr one ↦ subst (λ (l : List Sending). Contains l x) (sym one.1) (Contains-append_left xs (one.0 ∷ []) x there)
      ]

  already : (t : ℕ) (xs ys : List Sending) (x : Sending) → MoreAt t xs ys → Contains ys x → x.start < t → Contains xs x
  already t xs ys x more there below =
      elim more [
        | inl same ↦ subst (λ (l : List Sending). Contains l x) same there
        | inr one ↦ elim (Contains-push_cases xs one.0 x (subst (λ (l : List Sending). Contains l x) one.1 there)) [
          | inl before ↦ before
          | inr is ↦ absurd (omega (arith, below, one.2, ap (λ (z : Sending). z.start) is))
        ]
      ]

  pub stays_sent : (t u : ℕ) → t ≤ u → (x : Sending) → Contains (sent t) x → Contains (sent u) x
  stays_sent t zero order x there = subst (λ (k : ℕ). Contains (sent k) x) (omega (arith, order)) there
  stays_sent t (suc u) order x there =
      elim (cases_lt u t) [
        | inl at ↦ subst (λ (k : ℕ). Contains (sent k) x) (omega (arith, order, at)) there
        | inr below ↦ still_more u (sent u) (sent (suc u)) x (step_more u) (stays_sent t u below x there)
      ]

  pub was_sent : (t u : ℕ) → t ≤ u → (x : Sending) → Contains (sent u) x → x.start < t → Contains (sent t) x
  was_sent t zero order x there below = absurd (omega (arith, order, below))
  was_sent t (suc u) order x there below =
      elim (cases_lt u t) [
        | inl at ↦ subst (λ (k : ℕ). Contains (sent k) x) (omega (arith, order, at)) there
        | inr before ↦ was_sent t u before x (already u (sent u) (sent (suc u)) x (step_more u) there (omega (arith, before, below))) below
      ]

-- a list that is where a test holds, and nothing else
pub if_holds : {X : Type 0} (b : Bool) (xs : List X) (x : X) → Contains (if b then xs else []) x → (b ≡ true) × Contains xs x
if_holds true xs x there = (refl, there)
if_holds false xs x there = absurd (not_in_none x there)

pub holds_if : {X : Type 0} (b : Bool) (xs : List X) (x : X) → b ≡ true → Contains xs x → Contains (if b then xs else []) x
holds_if true xs x is there = there
holds_if false xs x is there = absurd (false≢true is)

module _ (s : ScenarioParts) (clocks : ℕ → ℕ → ℕ) (air : List Entry) (follows : FollowsTrails s clocks air) where
  in_trail : (v : ℕ) (x : Sending) → Contains (sendings_of air) x → x.node ≡ v
      → (knows s.nodes v ≡ true) × Contains (device_in s clocks air v (run_end s)).made.sent x
  in_trail v x there node =
      let own : Contains (sent_by air v) x = in_filtered (λ (y : Sending). y.node == v) (sendings_of air) x there (eq-eqb x.node v node) in
      let of = follows.sent v in
      if_holds (knows s.nodes v) (device_in s clocks air v (run_end s)).made.sent x (Contains-permutation _ _ x (IsPermutation-sym _ _ of) own)

  pub sent_known : (x : Sending) → Contains (sendings_of air) x → knows s.nodes x.node ≡ true
  sent_known x there = (in_trail x.node x there refl).0

  pub sent_lasts : (x : Sending) → Contains (sendings_of air) x → (x.start < run_end s) × (x.end ≡ x.start + airtime s.profile (length x.packet))
  sent_lasts x there =
      let v = x.node in
      let all = (at_tick s v (clocks v) (heard_by air v) (run_end s)).0 in
      let own = All-contains (IsSentBefore s v (run_end s)) (device_in s clocks air v (run_end s)).made.sent x all (in_trail v x there refl).1 in
      (own.before, own.lasts)

  -- and it takes some time
  pub takes_time : IsSoundScenario s → (x : Sending) → Contains (sendings_of air) x → x.start < x.end
  takes_time sound x there =
      let lasts = (sent_lasts x there).1 in
      let some = profile_lasts s.profile sound.profile (length x.packet) in
      omega (arith, lasts, some)

  pub sent_below : (v : ℕ) → knows s.nodes v ≡ true → (t : ℕ) → t ≤ run_end s → (x : Sending) → IsSentBelow air v t x
      ↔ Contains (device_in s clocks air v t).made.sent x
  sent_below v known t within x = (
    λ is. was_sent s v (clocks v) (heard_by air v) t (run_end s) within x (in_trail v x is.there is.node).1 is.below,
    λ there.
        let own = All-contains (IsSentBefore s v t) (device_in s clocks air v t).made.sent x (at_tick s v (clocks v) (heard_by air v) t).0 there in
        let all = holds_if (knows s.nodes v) (device_in s clocks air v (run_end s)).made.sent x known
        (stays_sent s v (clocks v) (heard_by air v) t (run_end s) within x there) in
        let both = filtered (λ (y : Sending). y.node == v) (sendings_of air) x (Contains-permutation _ _ x (follows.sent v) all) in
        record { there = both.0; node = own.node; below = own.before },
  )
