-- What the code charges for a slot is what the slot of the round costs, at all nodes.
use Rattle.std.proofs.Common.{◌≡◌, ◌+◌, ◌*◌, ◌==◌, ◌&&◌, ◌∷◌, [], ℕ, List, Bool, true, Option, Some, None, is_some, if◌then◌else◌, length, map, filter}
use Rattle.std.proofs.Common.{filter_map, refl, sym, ◌∙◌, ap, arith, inl, inr, sum_by}
use Rattle.std.specs.List.{cons_option}
use Rattle.std.specs.Option.{option_map, option_map_or}
use Rattle.std.proofs.lemmas.Bool.{cases_Bool}
use Rattle.std.proofs.lemmas.List.Sums.{sum_by-cons}
use Rattle.lwb_base.specs.Messages.{Plan}
use Rattle.lwb_base.specs.Profile.{Numbers, airtime}
use Rattle.scenario_text.specs.ScenarioParts.{ScenarioParts}
use Rattle.bus_rules.specs.Charges.{charge, last_if_all_sent}
use Rattle.bus_rules.specs.Slots.{part_of}
use Rattle.bus_rules.specs.States.{State}
use Rattle.bus_terms.specs.Bus.{Cost}
use Rattle.bus_terms.specs.Costs.{length_at, steps_sent_by}
use Rattle.bus_terms.specs.FloodOfText.{ids}
use Rattle.bus_terms.specs.Flooding.{moment, has, steps}
use Rattle.bus_terms.specs.Rounds.{Slot, opened_at, message_said, before_slot, slot_at}
use Rattle.plain_bus.specs.BusNodes.{ranks_in}
use Rattle.plain_bus.specs.Closings.{Behind}
use Rattle.plain_bus.specs.FloodMasks.{sends_in}
use Rattle.plain_bus.specs.Networks.{with_slot_at}
use Rattle.plain_bus.specs.SlotCosts.{bytes_sent_by, said_bytes, sent_as, slot_charged, steps_in, with_slot}
use Rattle.plain_bus.proofs.MembersOfSlots.{has_filtered}
use Rattle.plain_bus.proofs.OriginsKept.{sends_own, sends_first}
use Rattle.plain_bus.proofs.SlotsRun.{behind, node_at, same_in}

-- transmissions of one length
sent_in_all : (p : Numbers) (bytes : ℕ) (ks : List ℕ) → sum_by (λ (a : ℕ × ℕ). airtime p a.1) (sent_as bytes ks) ≡ length ks * airtime p bytes
sent_in_all p bytes [] = omega arith
sent_in_all p bytes (k ∷ ks) = omega (arith, sum_by-cons (λ (a : ℕ × ℕ). airtime p a.1) (k, bytes) (sent_as bytes ks), sent_in_all p bytes ks)

module _ (s : ScenarioParts) (rank f : ℕ) (p : Plan) (start others : ℕ → State) (j : ℕ) where
  abbrev x : Slot
  x = slot_at s rank f p start j

  abbrev b : Behind
  b = behind s rank f p start others j

  abbrev says : ℕ → Bool
  says v = is_some (message_said (opened_at s rank f (part_of p j) v (before_slot s rank f p start j v)))

  -- what a node sends is as long as it should be
  module _ (v : ℕ) (there : has (ids s.nodes) v ≡ true) where
    initiates : has x.flood.initiators v ≡ says v
    initiates = has_filtered says (ids s.nodes) v ∙ ap (λ (c : Bool). c && says v) there

    long : (k o : ℕ) → (moment x.flood k).sends v ≡ Some o → length_at x o ≡ bytes_sent_by b v
    long k o is = elim (cases_Bool (says v)) [
      | inl on ↦ (
          ap (length_at x) (sends_own x.flood v (initiates ∙ on) k o is)
          ∙ ap (λ (c : Bool). if c then said_bytes (b.window v) else option_map_or (λ (a : ℕ × ℕ). said_bytes (b.window a.0)) (b.first v) 0) (sym on)
          )
      | inr off ↦ (
          let first = sends_first x.flood v (initiates ∙ off) k o is in
          ap (λ (h : Option (ℕ × ℕ)). option_map_or (λ (a : ℕ × ℕ). said_bytes (b.window a.0)) h 0) (sym first.1)
          ∙ ap (λ (c : Bool). if c then said_bytes (b.window v) else option_map_or (λ (a : ℕ × ℕ). said_bytes (b.window a.0)) (b.first v) 0) (sym off)
          )
    ]

    one_sent : (k : ℕ) (rest more : List ℕ) (o : Option ℕ) → (moment x.flood k).sends v ≡ o
        → filter_map (λ (i : ℕ). option_map (λ (origin : ℕ). (i, length_at x origin)) ((moment x.flood i).sends v)) rest ≡ sent_as (bytes_sent_by b v) more
        → cons_option (option_map (λ (origin : ℕ). (k, length_at x origin)) o)
        (filter_map (λ (i : ℕ). option_map (λ (origin : ℕ). (i, length_at x origin)) ((moment x.flood i).sends v)) rest)
        ≡ sent_as (bytes_sent_by b v) (if is_some o then k ∷ more else more)
    one_sent k rest more None is same = same
    one_sent k rest more (Some o) is same =
        ap (λ (n : ℕ). (k, n) ∷ filter_map (λ (i : ℕ). option_map (λ (origin : ℕ). (i, length_at x origin)) ((moment x.flood i).sends v)) rest) (long k o is)
        ∙ ap (λ (l : List (ℕ × ℕ)). (k, bytes_sent_by b v) ∷ l) same

    all_sent : (ks : List ℕ) → filter_map (λ (i : ℕ). option_map (λ (origin : ℕ). (i, length_at x origin)) ((moment x.flood i).sends v)) ks
        ≡ sent_as (bytes_sent_by b v) (filter (sends_in x.flood v) ks)
    all_sent [] = refl
    all_sent (k ∷ ks) = one_sent k ks (filter (sends_in x.flood v) ks) ((moment x.flood k).sends v) refl (all_sent ks)

    sent_is : steps_sent_by x v ≡ sent_as (bytes_sent_by b v) (steps_in (sends_in x.flood v))
    sent_is = all_sent steps

    pub slot_charged_at : (c : Cost) → with_slot s.profile s.sends (b.window v).is_open (bytes_sent_by b v) (steps_in (sends_in x.flood v)) c
        ≡ with_slot_at s rank f p start j v c
    slot_charged_at c =
        let cost : ℕ → List (ℕ × ℕ) → Cost =
        λ sent ls. record c
        { sent = c.sent + sent; windows = c.windows + (if is_some (x.window v) then charge s.profile (last_if_all_sent s.sends ls) else 0) } in
        ap (λ (n : ℕ). cost n (sent_as (bytes_sent_by b v) (steps_in (sends_in x.flood v))))
        (sym (sent_in_all s.profile (bytes_sent_by b v) (steps_in (sends_in x.flood v))))
        ∙ ap (λ (ls : List (ℕ × ℕ)). cost (sum_by (λ (a : ℕ × ℕ). airtime s.profile a.1) ls) ls) (sym sent_is)

  pub slot_costs : (cost : ℕ → Cost) → map (slot_charged s.profile rank s.sends b (sends_in x.flood) (node_at s rank f p start others j) cost) (ids s.nodes)
      ≡ map (λ v. if ranks_in start v == rank then with_slot_at s rank f p start j v (cost v) else cost v) (ids s.nodes)
  slot_costs cost = same_in (slot_charged s.profile rank s.sends b (sends_in x.flood) (node_at s rank f p start others j) cost)
      (λ v. if ranks_in start v == rank then with_slot_at s rank f p start j v (cost v) else cost v) (ids s.nodes)
      (λ v there. ap (λ (c : Cost). if ranks_in start v == rank then c else cost v) (slot_charged_at v there (cost v)))
