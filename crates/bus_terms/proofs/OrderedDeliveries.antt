-- Each stream is delivered in order, and no packet twice: what is delivered later was said later, by a greater number.
use Rattle.std.proofs.Common.{◌≡◌, ℕ, zero, suc, ◌+◌, ◌<◌, ◌≤◌, [], Bool, true, false, ◌==◌, nat_le, nat_lt, if◌then◌else◌, Option, Some, None}
use Rattle.std.proofs.Common.{option_map, option_and_then, inl, inr, refl, ap, sym, ◌∙◌, subst, arith, length, slice_index}
use Rattle.std.specs.List.{AllByRecursion}
use Rattle.std.specs.Option.{option_map_or}
use Rattle.std.specs.Prelude.{◌⊎◌, ◌-◌, flat_map}
use Rattle.std.proofs.lemmas.Bool.{eqb-true, false≢true, cases_Bool, cases_lt, leb-true}
use Rattle.lwb_base.specs.Messages.{Plan}
use Rattle.lwb_base.proofs.Lists.{each_more}
use Rattle.scenario_text.specs.ScenarioParts.{ScenarioParts}
use Rattle.scenario_text.specs.ScenarioFacts.{IsSoundScenario}
use Rattle.scenario_text.specs.FloodDrafts.{Climbs}
use Rattle.bus_rules.specs.declared.delivery.Delivery.{Delivery}
use Rattle.bus_rules.specs.declared.part.Part.{Part}
use Rattle.bus_rules.specs.declared.part.Part.TheVariants.{Opening, Data as DataSlot, Contention, Closing}
use Rattle.bus_rules.specs.Cores.{Core, is_fresh, is_member}
use Rattle.bus_rules.specs.Plans.{last_slot}
use Rattle.bus_rules.specs.Tuning.{rank_of}
use Rattle.bus_rules.specs.Slots.{Data, Message, ScheduleOf, DataOf, RequestOf, Opened, delivery_of, part_of}
use Rattle.bus_rules.specs.States.{State, StateOff, StateOn}
use Rattle.bus_terms.specs.FloodOfText.{ids}
use Rattle.bus_terms.specs.Flooding.{accepted}
use Rattle.bus_terms.specs.ScriptedStates.{states_after_script}
use Rattle.bus_terms.specs.Rounds.{Slot, slot_of_round, message_said, accepted_at, closed_slot_of, before_slot, after_round, round_of_rank, rounds}
use Rattle.bus_terms.specs.Rounds.{rank_in, round_plan, slots_of, delivery_in_slot, slot_deliveries, round_deliveries}
use Rattle.bus_terms.specs.Bus.{before_frame, state_at, frames_of, ranks_of, bus_deliveries, InOrder, Ordered}
use Rattle.bus_terms.proofs.ListsInTurn.{in_turn_pairs, pairs_in_turn, pieces_in_turn}
use Rattle.bus_terms.proofs.ListsInTurn.{each_of_pieces, given_in_turn, each_given, range_in_turn}
use Rattle.bus_terms.proofs.NumbersKept.{IsPast, IsWell, Keeps, keeps_same, keeps_both, script_keeps, ended_keeps}
use Rattle.bus_terms.proofs.NumbersSaid.{Says, says, slots_keep, number_from, above_then}
use Rattle.bus_terms.proofs.OtherRanks.{IsElsewhere, slots_elsewhere, not_member}
use Rattle.bus_terms.proofs.ReceivedInRounds.{ids_rise}

-- the data that a delivery brings
abbrev pub data_in : Delivery → Data
data_in a = record { node = a.from; boot = a.boot; stream = a.stream; seq = a.seq; payload = a.payload }

-- it was said in slot j of the round by this plan
abbrev pub IsSaidIn : ScenarioParts → ℕ → ℕ → Plan → ℕ → Delivery → Type 0
IsSaidIn s rank f p j a = Says s rank f (part_of p j) a.from (before_slot s rank f p (state_at s f) j a.from) (data_in a)

-- it was said in a round of this rank and frame
pub record IsFrom (s : ScenarioParts) (rank f : ℕ) (a : Delivery) : Type 0 where
  pub plan : Plan
  pub planned : round_plan s rank f (state_at s f) ≡ Some plan
  pub slot : ℕ
  pub said : IsSaidIn s rank f plan slot a

-- what a window delivers it has accepted
pub accepted_data : (s : ScenarioParts) (f : ℕ) (part : Part) (v : ℕ) (w : Option Opened) (heard : Option Message) (x : State) (d : Data)
    → option_and_then (λ c. c.delivered) (closed_slot_of s f part v w heard x) ≡ Some d → heard ≡ Some (DataOf d)
accepted_data s f part v (Some o) None x d is = absurd (cc)
accepted_data s f part v (Some o) (Some (ScheduleOf y)) x d is = absurd (cc)
accepted_data s f part v (Some o) (Some (DataOf e)) x d is = (let same : e ≡ d = cc in ap (λ (y : Data). Some (DataOf y)) same)
accepted_data s f part v (Some o) (Some (RequestOf a)) x d is = absurd (cc)
accepted_data s f part v None None x d is = absurd (cc)
accepted_data s f part v None (Some m) (StateOff boots) d is = absurd (cc)
accepted_data s f part v None (Some (ScheduleOf y)) (StateOn c) d is = absurd (cc)
accepted_data s f part v None (Some (DataOf e)) (StateOn c) d is = (let same : e ≡ d = cc in ap (λ (y : Data). Some (DataOf y)) same)
accepted_data s f part v None (Some (RequestOf a)) (StateOn c) d is = absurd (cc)

-- what is accepted somebody said
pub said_somewhere : (x : Slot) (a : Option (ℕ × ℕ)) (m : Message) → option_and_then (λ b. message_said (x.window b.0)) a ≡ Some m
    → (o : ℕ) × (message_said (x.window o) ≡ Some m)
said_somewhere x None m is = absurd (cc)
said_somewhere x (Some a) m is = (a.0, is)

pub mapped : (g : Data → Delivery) (d : Option Data) (a : Delivery) → option_map g d ≡ Some a → (e : Data) × (d ≡ Some e) × (g e ≡ a)
mapped g None a is = absurd (cc)
mapped g (Some e) a is = (e, refl, cc)

delivered_from : (s : ScenarioParts) (rank f : ℕ) (p : Plan) (j v : ℕ) (a : Delivery) → delivery_in_slot s rank f p (state_at s f) j v ≡ Some a
    → (a.node ≡ v) × IsSaidIn s rank f p j a
delivered_from s rank f p j v a is =
    let before = before_slot s rank f p (state_at s f) j in
    let x = slot_of_round s rank f p j before in
    let found = mapped (delivery_of v f rank j) _ a is in
    let d = found.0 in
    let heard = accepted_data s f x.part v (x.window v) (accepted_at x v) (before v) d found.1 in
    let by = said_somewhere x (accepted x.flood v) (DataOf d) heard in
    let said = says s rank f (part_of p j) by.0 (before by.0) d by.1 in
    let node : d.node ≡ by.0 = said.said.of_node in
    let at : Says s rank f (part_of p j) d.node (before d.node) d = subst (λ (u : ℕ). Says s rank f (part_of p j) u (before u) d) (sym node) said in
    (ap (λ (b : Delivery). b.node) (sym found.2), subst (λ (b : Delivery). IsSaidIn s rank f p j b) found.2 at)

-- a data slot is one of the round
pub data_in_round : (p : Plan) (j owner : ℕ) → part_of p j ≡ DataSlot owner → j ≤ last_slot p
data_in_round p j owner is =
    elim (cases_lt (length p.owners) j) [
      | inl after ↦ absurd (no_data (j == 0) (nat_le j (length p.owners)) (beyond after) is)
      | inr within ↦ omega arith
    ]
  where
    beyond : length p.owners < j → nat_le j (length p.owners) ≡ false
    beyond after = by_test (nat_le j (length p.owners)) refl
      where
        by_test : (b : Bool) → nat_le j (length p.owners) ≡ b → b ≡ false
        by_test false at = refl
        by_test true at = (let less = leb-true j (length p.owners) at in absurd (omega arith))

    no_data : (first among : Bool) → among ≡ false
        → (if first then Opening else if among then DataSlot (slice_index p.owners (j - 1)) else if nat_lt j (last_slot p) then Contention
        (j - length p.owners) else Closing) ≡ DataSlot owner → ⊥
    no_data true among none is = cc
    no_data false true none is = false≢true (sym none)
    no_data false false none is = by_last (nat_lt j (last_slot p)) is
      where
        by_last : (b : Bool) → (if b then Contention (j - length p.owners) else Closing) ≡ DataSlot owner → ⊥
        by_last true is = cc
        by_last false is = cc

-- who says something in a round is of its rank at the start of the frame
rank_is : (s : ScenarioParts) (rank f : ℕ) (p : Plan) (j u : ℕ) (states : ℕ → State) (d : Data)
    → Says s rank f (part_of p j) u (before_slot s rank f p states j u) d → rank_in (states u) ≡ rank
rank_is s rank f p j u states d is = by_state (states u) refl
  where
    stays : IsElsewhere rank (states u) → before_slot s rank f p states j u ≡ states u
    stays other = slots_elsewhere s rank f p u states other j

    by_state : (x : State) → states u ≡ x → rank_in x ≡ rank
    by_state (StateOff boots) at =
        let other : IsElsewhere rank (states u) = subst (IsElsewhere rank) (sym at) tt in
        let same : StateOff boots ≡ StateOn is.core = sym at ∙ sym (stays other) ∙ is.on in
        absurd (cc)
    by_state (StateOn c) at = elim (cases_Bool (rank_of c.tune == rank))
        [ inl same ↦ eqb-true (rank_of c.tune) rank same | inr other ↦ absurd (elsewhere other) ]
      where
        elsewhere : (rank_of c.tune == rank) ≡ false → ⊥
        elsewhere other =
            let there : IsElsewhere rank (states u) = subst (IsElsewhere rank) (sym at) other in
            let same : StateOn c ≡ StateOn is.core = sym at ∙ sym (stays there) ∙ is.on in
            let core : c ≡ is.core = core_same same in
            let out : is_member rank f is.core ≡ false = ap (λ (e : Core). is_member rank f e) (sym core) ∙ not_member rank f c.tune (is_fresh c) other in
            false≢true (sym out ∙ is.member)
          where
            core_same : {e : Core} → StateOn c ≡ StateOn e → c ≡ e
            core_same is = cc

-- rounds and frames keep the numbers of each node
pub rounds_keep : (s : ScenarioParts) (f v : ℕ) (states : ℕ → State) → Keeps (states v) (rounds s f states v)
unfolding before_slot
rounds_keep s f v states = by_plan (round_plan s (rank_in (states v)) f states)
  where
    by_plan : (p : Option Plan) → Keeps (states v) (after_round s (rank_in (states v)) f states p v)
    by_plan None = keeps_same (states v)
    by_plan (Some p) = slots_keep s (rank_in (states v)) f p v states 0 (last_slot p + 1) (omega arith)

frame_keeps : (s : ScenarioParts) (f v : ℕ) → Keeps (before_frame s f v) (before_frame s (suc f) v)
unfolding before_frame
frame_keeps s f v =
    let told = states_after_script s f (before_frame s f) in
    let over = rounds s f told in
    keeps_both (before_frame s f v) (told v) (before_frame s (suc f) v) (script_keeps s f v (before_frame s f))
    (keeps_both (told v) (over v) (before_frame s (suc f) v) (rounds_keep s f v told) (ended_keeps s f v over))

pub frames_keep : (s : ScenarioParts) (v f g : ℕ) → f ≤ g → Keeps (before_frame s f v) (before_frame s g v)
frames_keep s v f zero le =
    let none : f ≡ zero = omega arith in
    subst (λ (i : ℕ). Keeps (before_frame s i v) (before_frame s zero v)) (sym none) (keeps_same (before_frame s zero v))
frames_keep s v f (suc g) le = by_order (cases_lt g f) (frames_keep s v f g)
  where
    by_order : (g < f) ⊎ (f ≤ g) → (f ≤ g → Keeps (before_frame s f v) (before_frame s g v)) → Keeps (before_frame s f v) (before_frame s (suc g) v)
    by_order (inl after) rest =
        let same : suc g ≡ f = omega arith in
        subst (λ (i : ℕ). Keeps (before_frame s i v) (before_frame s (suc g) v)) same (keeps_same (before_frame s (suc g) v))
    by_order (inr before) rest =
        keeps_both (before_frame s f v) (before_frame s g v) (before_frame s (suc g) v) (rest before) (frame_keeps s g v)

-- numbers are well at each moment
frame_well : (s : ScenarioParts) (f v : ℕ) → IsWell (state_at s f v)
unfolding before_frame
frame_well s f v = (script_keeps s f v (before_frame s f)).well ((frames_keep s v 0 f (omega arith)).well tt)

slot_well : (s : ScenarioParts) (rank f : ℕ) (p : Plan) (j v : ℕ) → IsWell (before_slot s rank f p (state_at s f) j v)
unfolding before_slot
slot_well s rank f p j v = (slots_keep s rank f p v (state_at s f) 0 j (omega arith)).well (frame_well s f v)

-- after its slot, a delivery's number is below those of its boot that are still to come
past_slot : (s : ScenarioParts) (rank f : ℕ) (p : Plan) (j : ℕ) (a : Delivery) → IsSaidIn s rank f p j a
    → IsPast a.boot a.stream (a.seq + 1) (before_slot s rank f p (state_at s f) (suc j) a.from)
unfolding before_slot
past_slot s rank f p j a said =
    above_then s rank f p j a.from (before_slot s rank f p (state_at s f) j) (data_in a) said (slot_well s rank f p j a.from)

-- so a later one of the same stream has a greater number
greater : (s : ScenarioParts) (rank f : ℕ) (p : Plan) (j : ℕ) (a b : Delivery)
    → IsPast a.boot a.stream (a.seq + 1) (before_slot s rank f p (state_at s f) j a.from) → IsSaidIn s rank f p j b → InOrder a b
greater s rank f p j a b past said node from boot stream =
    let before = before_slot s rank f p (state_at s f) j in
    let first = subst (λ (u : ℕ). IsPast a.boot a.stream (a.seq + 1) (before u)) from past in
    let second = subst (λ (n : ℕ). IsPast n a.stream (a.seq + 1) (before b.from)) boot first in
    let third = subst (λ (i : ℕ). IsPast b.boot i (a.seq + 1) (before b.from)) stream second in
    let above = number_from s rank f (part_of p j) b.from (before b.from) (data_in b) said (a.seq + 1) third in
    omega (arith, above)

pub later_slot : (s : ScenarioParts) (rank f : ℕ) (p : Plan) (j k : ℕ) → j < k → (a b : Delivery) → IsSaidIn s rank f p j a → IsSaidIn s rank f p k b
    → InOrder a b
later_slot s rank f p j k less a b first second =
    greater s rank f p k a b
    ((slots_keep s rank f p a.from (state_at s f) (suc j) k (omega arith)).past a.boot a.stream (a.seq + 1) (past_slot s rank f p j a first))
    second

-- a node says something in the rounds of one rank alone
pub other_rank : (s : ScenarioParts) (rank other f : ℕ) → rank < other → (a b : Delivery) → IsFrom s rank f a → IsFrom s other f b → InOrder a b
other_rank s rank other f less a b first second node from boot stream =
    let one = rank_is s rank f first.plan first.slot a.from (state_at s f) (data_in a) first.said in
    let two = rank_is s other f second.plan second.slot b.from (state_at s f) (data_in b) second.said in
    let same = ap (λ (u : ℕ). rank_in (state_at s f u)) from in
    absurd (omega (arith, one, two, same))

pub past_frame : (s : ScenarioParts) (rank f : ℕ) (a : Delivery) → IsFrom s rank f a → IsPast a.boot a.stream (a.seq + 1) (before_frame s (suc f) a.from)
unfolding before_frame
past_frame s rank f a is =
    let p = is.plan in
    let u = a.from in
    let states = state_at s f in
    let within = data_in_round p is.slot is.said.slot.0 is.said.slot.1 in
    let behind = (slots_keep s rank f p u states (suc is.slot) (last_slot p + 1) (omega (arith, within))).past a.boot a.stream (a.seq + 1)
    (past_slot s rank f p is.slot a is.said) in
    let own = rank_is s rank f p is.slot u states (data_in a) is.said in
    let planned : round_of_rank s rank f states u ≡ before_slot s rank f p states (last_slot p + 1) u = ap
    (λ (q : Option Plan). after_round s rank f states q u) is.planned in
    let ranked : rounds s f states u ≡ round_of_rank s rank f states u = ap (λ (r : ℕ). round_of_rank s r f states u) own in
    let over = subst (IsPast a.boot a.stream (a.seq + 1)) (sym (ranked ∙ planned)) behind in
    (ended_keeps s f u (rounds s f states)).past a.boot a.stream (a.seq + 1) over

pub later_frame : (s : ScenarioParts) (f g : ℕ) → f < g → (a b : Delivery) → ((rank : ℕ) × IsFrom s rank f a) → ((rank : ℕ) × IsFrom s rank g b)
    → InOrder a b
unfolding before_slot
later_frame s f g less a b first second =
    let u = a.from in
    let over = past_frame s first.0 f a first.1 in
    let at = (frames_keep s u (suc f) g (omega arith)).past a.boot a.stream (a.seq + 1) over in
    let told = (script_keeps s g u (before_frame s g)).past a.boot a.stream (a.seq + 1) at in
    let p = second.1.plan in
    let j = second.1.slot in
    let now = (slots_keep s second.0 g p u (state_at s g) 0 j (omega arith)).past a.boot a.stream (a.seq + 1) told in
    greater s second.0 g p j a b now second.1.said

-- the lists, from the inside out
module _ (s : ScenarioParts) (sound : IsSoundScenario s) where
  in_slot : (rank f : ℕ) (p : Plan) (j : ℕ) → Climbs InOrder (slot_deliveries s rank f p (state_at s f) j)
  in_slot rank f p j =
      given_in_turn (λ u v. u < v) InOrder (delivery_in_slot s rank f p (state_at s f) j) other_node (ids s.nodes)
      (pairs_in_turn (λ u v. u < v) (ids s.nodes) (ids_rise s.nodes sound.ascending))
    where
      other_node : (u v : ℕ) → u < v → (a b : Delivery) → delivery_in_slot s rank f p (state_at s f) j u ≡ Some a
          → delivery_in_slot s rank f p (state_at s f) j v ≡ Some b → InOrder a b
      other_node u v less a b first second node from boot stream =
          let one = (delivered_from s rank f p j u a first).0 in
          let two = (delivered_from s rank f p j v b second).0 in
          absurd (omega (arith, one, two, node))

  each_in_slot : (rank f : ℕ) (p : Plan) (j : ℕ) → AllByRecursion (IsSaidIn s rank f p j) (slot_deliveries s rank f p (state_at s f) j)
  each_in_slot rank f p j =
      each_given (IsSaidIn s rank f p j) (delivery_in_slot s rank f p (state_at s f) j) (λ v a is. (delivered_from s rank f p j v a is).1) (ids s.nodes)

  in_round : (rank f : ℕ) → Climbs InOrder (round_deliveries s rank f (state_at s f))
  in_round rank f = by_plan (round_plan s rank f (state_at s f))
    where
      by_plan : (p : Option Plan) → Climbs InOrder (option_map_or (λ p. flat_map (slot_deliveries s rank f p (state_at s f)) (slots_of p)) p [])
      by_plan None = tt
      by_plan (Some p) =
          pieces_in_turn (λ j k. j < k) InOrder (IsSaidIn s rank f p) (slot_deliveries s rank f p (state_at s f)) (each_in_slot rank f p) (in_slot rank f p)
          (later_slot s rank f p) (slots_of p) (range_in_turn 0 (last_slot p + 1))

  each_in_round : (rank f : ℕ) → AllByRecursion (IsFrom s rank f) (round_deliveries s rank f (state_at s f))
  each_in_round rank f = by_plan (round_plan s rank f (state_at s f)) refl
    where
      by_plan : (p : Option Plan) → round_plan s rank f (state_at s f) ≡ p
          → AllByRecursion (IsFrom s rank f) (option_map_or (λ p. flat_map (slot_deliveries s rank f p (state_at s f)) (slots_of p)) p [])
      by_plan None is = tt
      by_plan (Some p) is =
          each_of_pieces (IsFrom s rank f) (slot_deliveries s rank f p (state_at s f))
          (λ j. each_more (IsSaidIn s rank f p j) (IsFrom s rank f) (λ a said. record { plan = p; planned = is; slot = j; said = said }) _
          (each_in_slot rank f p j)) (slots_of p)

  in_frame : (f : ℕ) → Climbs InOrder (flat_map (λ rank. round_deliveries s rank f (state_at s f)) (ranks_of s))
  in_frame f =
      pieces_in_turn (λ r q. r < q) InOrder (λ rank a. IsFrom s rank f a) (λ rank. round_deliveries s rank f (state_at s f))
      (λ rank. each_in_round rank f) (λ rank. in_round rank f)
      (λ r q less. other_rank s r q f less) (ranks_of s) (range_in_turn 0 (length s.hosts))

  each_in_frame : (f : ℕ) → AllByRecursion (λ a. (rank : ℕ) × IsFrom s rank f a) (flat_map (λ rank. round_deliveries s rank f (state_at s f)) (ranks_of s))
  each_in_frame f =
      each_of_pieces (λ a. (rank : ℕ) × IsFrom s rank f a) (λ rank. round_deliveries s rank f (state_at s f))
      (λ rank. each_more (IsFrom s rank f) (λ a. (rank : ℕ) × IsFrom s rank f a) (λ a is. (rank, is)) _ (each_in_round rank f)) (ranks_of s)

  pub deliveries_in_order : Ordered (bus_deliveries s)
  deliveries_in_order =
      in_turn_pairs InOrder (bus_deliveries s)
      (pieces_in_turn (λ f g. f < g) InOrder (λ f a. (rank : ℕ) × IsFrom s rank f a)
      (λ f. flat_map (λ rank. round_deliveries s rank f (state_at s f)) (ranks_of s))
      each_in_frame in_frame (later_frame s) (frames_of s) (range_in_turn 0 s.frames))
