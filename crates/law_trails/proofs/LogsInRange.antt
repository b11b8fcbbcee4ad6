-- In a log that follows its trails and in which only what was sent is received, all packets and all nodes are in their ranges.
use Rattle.std.proofs.Common.{◌≡◌, ℕ, zero, suc, ◌<◌, ◌≤◌, List, [], ◌∷◌, true, false, ◌==◌}
use Rattle.std.proofs.Common.{get_or, inl, inr, refl, sym, ◌∙◌, ap, subst, arith}
use Rattle.std.specs.Prelude.{All, Contains}
use Rattle.std.specs.List.{AllByRecursion}
use Rattle.std.proofs.lemmas.Bool.{or_cases, eqb-true, false≢true}
use Rattle.std.proofs.lemmas.List.Elements.{All-contains, recursion_from_All}
use Rattle.std.proofs.lemmas.List.Elements.{Contains-get_or}
use Rattle.radio_model.specs.declared.sending.Sending.{Sending}
use Rattle.scenario_text.specs.ScenarioParts.{ScenarioParts}
use Rattle.scenario_text.specs.ScenarioFacts.{IsSoundScenario}
use Rattle.scenario_text.specs.FloodParts.{knows}
use Rattle.scenario_text.specs.declared.lines.NodeLine.{NodeLine}
use Rattle.air_log.specs.declared.entry.Entry.{Entry}
use Rattle.air_log.specs.Entries.{sendings_of}
use Rattle.air_log.specs.Lawful.{FollowsTrails, heard_by}
use Rattle.air_log.specs.Devices.{Device}
use Rattle.scenario_text.specs.Setups.{setup_of}
use Rattle.air_log.specs.Trails.{Reception, run_end, before_tick}
use Rattle.law_trails.specs.SpokenRanges.{IsFitting, IsProper}
use Rattle.law_trails.specs.DeviceRanges.{HeardBefore, IsWellAndProper, HoldsThrough}
use Rattle.law_trails.specs.LogRanges.{HearsWhatIsSent}
use Rattle.law_trails.proofs.HeardInTrails.{reception_is}
use Rattle.law_trails.proofs.RelayedMessages.{proper_rules}
use Rattle.law_trails.proofs.SentInTrails.{sent_below, sent_known, sent_lasts, takes_time}
use Rattle.law_trails.proofs.TrailsInRange.{trail_is, through}

-- the id of a node
pub known_in : (ns : List NodeLine) (v : ℕ) → AllByRecursion (λ (n : NodeLine). (1 ≤ n.node) × (n.node ≤ 200)) ns → knows ns v ≡ true → (1 ≤ v) × (v ≤ 200)
known_in [] v ids known = absurd (false≢true known)
known_in (n ∷ ns) v ids known =
    elim (or_cases (n.node == v) (knows ns v) known) [
      | inl here ↦ (let same = eqb-true n.node v here in (omega (arith, ids.0), omega (arith, ids.0)))
      | inr later ↦ known_in ns v ids.1 later
    ]

module _ (s : ScenarioParts) (sound : IsSoundScenario s) (clocks : ℕ → ℕ → ℕ) (air : List Entry) (follows : FollowsTrails s clocks air)
    (hears : HearsWhatIsSent air) where
  abbrev Q : List ℕ → Type 0
  Q q = IsProper s.profile q

  abbrev H : List ℕ → Type 0
  H q = IsFitting s.profile q

  abbrev device : ℕ → ℕ → Device
  device v t = before_tick s v (clocks v) (heard_by air v) t

  abbrev So : ℕ → Type 0
  So t = (v : ℕ) → 1 ≤ v → v ≤ 200 → All (λ (x : Sending). Q x.packet) (device v t).made.sent

  -- of the log: what was sent before a tick
  sent_before : (t : ℕ) → t ≤ run_end s → So t → (x : Sending) → Contains (sendings_of air) x → x.start < t → Q x.packet
  sent_before t early so x there below =
      let v = x.node in
      let known = sent_known s clocks air follows x there in
      let id = known_in s.nodes v (recursion_from_All (λ (n : NodeLine). (1 ≤ n.node) × (n.node ≤ 200)) s.nodes sound.ids) known in
      let made = (sent_below s clocks air follows v known t early x).0 (record { there = there; node = refl; below = below }) in
      All-contains (λ (y : Sending). Q y.packet) (device v t).made.sent x (so v id.0 id.1) made

  -- what is received
  receptions : (P : Reception → Type 0) (v : ℕ) → ((x : Sending) → Contains (sendings_of air) x → P (record { packet = x.packet; end = x.end }))
      → All P (heard_by air v)
  receptions P v each k other less =
      let h = get_or (heard_by air v) k other in
      let of = (reception_is air v h).0 (Contains-get_or (heard_by air v) k other less) in
      let same : h ≡ record { packet = of.sending.packet; end = of.sending.end } =
      ap (λ (q : List ℕ). record h { packet = q }) of.packet ∙ ap (λ (t : ℕ). record h { packet = of.sending.packet; end = t }) of.end in
      subst P (sym same) (each of.sending (hears v of.sending of.there))

  fitting_of : (q : List ℕ) → Q q → H q
  fitting_of q is = record { most = is.spoken.most; of_profile = is.of_profile }

  so_far : (t : ℕ) → t ≤ run_end s → So t
  so_far zero early v low high =
      (trail_is s sound v low high Q H (proper_rules (setup_of s v)) (clocks v) (heard_by air v) zero (λ k h less before. absurd (omega (arith, before)))).sent
  so_far (suc t) early v low high =
      let so = so_far t (omega (arith, early)) in
      let heard : HeardBefore H (heard_by air v) (suc t) =
      receptions (λ (h : Reception). h.end < suc t → H h.packet) v
      (λ x there before. fitting_of x.packet (sent_before t (omega (arith, early)) so x there
      (omega (arith, before, takes_time s clocks air follows sound x there)))) in
      (trail_is s sound v low high Q H (proper_rules (setup_of s v)) (clocks v) (heard_by air v) (suc t) heard).sent

  -- all that is sent
  pub all_sent : (x : Sending) → Contains (sendings_of air) x → IsProper s.profile x.packet
  all_sent x there = sent_before (run_end s) (omega arith) (so_far (run_end s) (omega arith)) x there (sent_lasts s clocks air follows x there).0

  -- all that is received
  pub all_heard : (v t : ℕ) → HeardBefore (IsFitting s.profile) (heard_by air v) t
  all_heard v t = receptions (λ (h : Reception). h.end < t → H h.packet) v (λ x there before. fitting_of x.packet (all_sent x there))

  pub all_through : (v t : ℕ) → 1 ≤ v → v ≤ 200 → HoldsThrough (IsWellAndProper s v) s v (clocks v) (heard_by air v) t
  all_through v t low high = through s sound v low high Q H (proper_rules (setup_of s v)) (clocks v) (heard_by air v) t (all_heard v (suc t))
