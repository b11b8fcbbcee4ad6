-- Two contenders with the same neighbours: where nothing is lost and nothing captured, nobody receives either request.
use Rattle.std.proofs.Common.{◌≡◌, ◌≢◌, ◌+◌, ◌-◌, ◌==◌, ◌&&◌, ℕ, suc, Bool, true, false, inl, inr, Option, Some, None, if◌then◌else◌, is_some, length}
use Rattle.std.proofs.Common.{option_map, eq-eqb, add-one, refl, sym, ◌∙◌, ap, subst, arith, ◌⊎◌}
use Rattle.law_service.proofs.Words.{false≢true, cond-true, Plan, ScenarioParts, Part, Contention, Core, is_member, Message, RequestOf, opened_slot, part_of}
use Rattle.law_service.proofs.Words.{is_own, request_of, State, StateOn, Streams, after_contention, due_stream, state_at, ids, Setting, moment, has, pick}
use Rattle.law_service.proofs.Words.{may_hear, takes, hears, accepted, Hears, Slot, accepted_at, opened_at, closed_slot_of, left_by, before_slot, message_said}
use Rattle.law_service.proofs.Words.{takes_part, setup_of, inspect, heard_parts, in_filtered, of_filtered, in_whole, DifferentPacketsCollide, Collide}
use Rattle.law_service.proofs.Words.{ContendersAreLost, ContendersStayTied, AreTied, is_linked, TakesPart, slot_in, node_before, contention_at, requests}
use Rattle.law_service.proofs.Words.{only_requests, said_message, left_windowed}
use Rattle.law_service.proofs.SharedSlots.{deaf_slot, one_or_none, two_start}
use Rattle.law_service.proofs.TiedNodes.{contention_keeps}

-- what nobody receives
silent : (o : Option ℕ) → ((y : ℕ) → o ≡ Some y → ⊥) → o ≡ None
silent o never = elim (inspect o) [ inl none ↦ none | inr some ↦ absurd (never some.0 some.1) ]

pub collide : DifferentPacketsCollide
collide s k w u v differ first second uncaptured =
    silent (hears s (moment s k) k w)
    (λ o heard. one_or_none s (moment s k) k w u v o differ first second uncaptured
    (heard_parts (may_hear s (moment s k) w) (takes s (moment s k) w) (pick s (moment s k) k w) o heard).1)

-- a flood in which only u and v initiate, and where one reaches another node so does the other
module _ (s : Setting) (u v : ℕ) (differ : u ≢ v) (there : (has s.everyone u ≡ true) × (has s.everyone v ≡ true))
    (both : (has s.initiators u ≡ true) × (has s.initiators v ≡ true)) (others : (w : ℕ) → has s.initiators w ≡ true → (w ≡ u) ⊎ (w ≡ v))
    (alike : (w : ℕ) → has s.everyone w ≡ true → w ≢ u → w ≢ v → s.passes 0 u w ≡ s.passes 0 v w) (uncaptured : (k w : ℕ) → s.captured k w ≡ None) where
  pub nobody_hears : (k w o : ℕ) → Hears s w k o → ⊥
  nobody_hears =
      two_start s uncaptured u v differ there both
      (λ w here not_u not_v x starts over. by_sender w (alike w here not_u not_v) x over (others x starts))
    where
      by_sender : (w : ℕ) → s.passes 0 u w ≡ s.passes 0 v w → (x : ℕ) → s.passes 0 x w ≡ true → (x ≡ u) ⊎ (x ≡ v)
          → (s.passes 0 u w ≡ true) × (s.passes 0 v w ≡ true)
      by_sender w same x over (inl is) = (let first = ap (λ (y : ℕ). s.passes 0 y w) (sym is) ∙ over in (first, sym same ∙ first))
      by_sender w same x over (inr is) = (let second = ap (λ (y : ℕ). s.passes 0 y w) (sym is) ∙ over in (same ∙ second, second))

module _ (s : ScenarioParts) (rank f : ℕ) (p : Plan) (j u v : ℕ) (is : Collide s rank f p j u v) where
  abbrev x : Slot
  x = slot_in s rank f p j

  abbrev before : ℕ → State
  before = before_slot s rank f p (state_at s f) j

  known : (w : ℕ) → TakesPart x w → has (ids s.nodes) w ≡ true
  known w takes = in_whole (λ w. takes_part rank x.part (before w) (x.window w)) (ids s.nodes) w takes

  initiates : (w : ℕ) → TakesPart x w → is_some (message_said (x.window w)) ≡ true → has x.flood.initiators w ≡ true
  initiates w takes says = in_filtered (λ w. is_some (message_said (x.window w))) (ids s.nodes) w (known w takes) says

  no_link : (a b c d : Bool) → a ≡ false → (a && b && c && d) ≡ false
  no_link a b c d is = rw is refl

  -- without losses a link passes if and only if there is one
  steady : (w y : ℕ) → TakesPart x w → TakesPart x y → x.flood.passes 0 w y ≡ is_linked s w y
  steady w y from to = by_link (is_linked s w y) refl
    where
      by_link : (b : Bool) → is_linked s w y ≡ b → x.flood.passes 0 w y ≡ is_linked s w y
      by_link true at = is.lossless 0 w y (omega arith) from to at ∙ sym at
      by_link false at = no_link _ _ _ _ at ∙ sym at

  pub none_accepts : (w : ℕ) → accepted_at x w ≡ None
  none_accepts w =
      let c = is.contenders in
      let deaf = nobody_hears x.flood u v c.differ c.members (initiates u c.members.0 c.both.0, initiates v c.members.1 c.both.1)
      (λ w starts. c.others w (of_filtered (λ w. is_some (message_said (x.window w))) (ids s.nodes) w starts))
      (λ w here not_u not_v. steady u w c.members.0 here ∙ is.neighbours w here not_u not_v ∙ sym (steady v w c.members.1 here)) is.uncaptured in
      deaf_slot x deaf w

  -- one of the two, before the slot and after it
  requester : (w : ℕ) (c : Core) → before w ≡ StateOn c → is_some (message_said (x.window w)) ≡ true
      → (d : Core) × (before_slot s rank f p (state_at s f) (suc j) w ≡ StateOn d) × (d.streams ≡ after_contention w c.streams)
      × (is_some (due_stream c.streams) ≡ true)
  unfolding before_slot
  requester w c on says =
      let i = j - length p.owners in
      let at = contention_at p j is.contenders.after_data is.contenders.before_last in
      let m = some_of (message_said (x.window w)) says in
      let said = said_message s rank f (Contention i) w (before w) m.0 (ap (λ (q : Part). message_said (opened_at s rank f q w (before w))) (sym at) ∙ m.1) in
      let same : said.0 ≡ c = (let both : StateOn said.0 ≡ StateOn c = sym said.1 ∙ on in cc) in
      let request = only_requests (setup_of s w) f i said.0 m.0 said.3 in
      let asks : (opened_slot (setup_of s w) f (Contention i) said.0).message ≡ Some (RequestOf request.0) = said.3 ∙ ap (λ (n : Message). Some n) request.1 in
      let own : c.own_slot ≡ Some i = ap (λ (d : Core). d.own_slot) (sym same) ∙ (requests (setup_of s w) f i said.0 request.0 asks).own in
      let member = ap (λ (d : Core). is_member rank f d) (sym same) ∙ said.2 in
      let mine : is_own c.own_slot i ≡ true = ap (λ (o : Option ℕ). is_own o i) own ∙ eq-eqb i i refl in (
        (opened_slot (setup_of s w) f (Contention i) c).core,
        ap (λ (h : Option Message). left_by (before w) (closed_slot_of s f (part_of p j) w (opened_at s rank f (part_of p j) w (before w)) h (before w)))
            (none_accepts w)
            ∙ ap (λ (q : Part). left_by (before w) (closed_slot_of s f q w (opened_at s rank f q w (before w)) None (before w))) at
            ∙ left_windowed s rank f (Contention i) w (before w) c None on member,
        cond-true (is_own c.own_slot i) (after_contention w c.streams) c.streams mine,
        has_due w c i (ap (λ (d : Core). is_some (opened_slot (setup_of s w) f (Contention i) d).message) (sym same)
            ∙ ap (λ (o : Option Message). is_some o) said.3),
      )
    where
      some_of : (o : Option Message) → is_some o ≡ true → (m : Message) × (o ≡ Some m)
      some_of None is = absurd (false≢true is)
      some_of (Some m) is = (m, refl)

      has_due : (w : ℕ) (c : Core) (i : ℕ) → is_some (opened_slot (setup_of s w) f (Contention i) c).message ≡ true → is_some (due_stream c.streams) ≡ true
      has_due w c i some = by_tests (is_own c.own_slot i) (c.streams.skips == 0) (due_stream c.streams) some
        where
          by_tests : (b t : Bool) (o : Option ℕ) → is_some (if b then option_map (request_of w c) (if t then o else None) else None) ≡ true
              → is_some o ≡ true
          by_tests false t o some = absurd (false≢true some)
          by_tests true false o some = absurd (false≢true some)
          by_tests true true None some = absurd (false≢true some)
          by_tests true true (Some k) some = refl

pub lost : ContendersAreLost
lost s accepted rank f p j u v is w = none_accepts s rank f p j u v is w

pub stay_tied : ContendersStayTied
stay_tied s accepted rank f p j u v is c d first second tied =
    let next : (w : ℕ) → node_before s rank f p (j + 1) w ≡ before_slot s rank f p (state_at s f) (suc j) w =
    λ w. ap (λ (i : ℕ). before_slot s rank f p (state_at s f) i w) (add-one j) in
    let ours = requester s rank f p j u v is u c first is.contenders.both.0 in
    let theirs = requester s rank f p j u v is v d second is.contenders.both.1 in
    let again = contention_keeps u v c.streams d.streams tied ours.3 theirs.3 in
    record {
      first = ours.0;
      first_on = next u ∙ ours.1;
      second = theirs.0;
      second_on = next v ∙ theirs.1;
      tied = subst (λ (a : Streams). AreTied u v a theirs.0.streams) (sym ours.2)
          (subst (λ (b : Streams). AreTied u v (after_contention u c.streams) b) (sym theirs.2) again);
    }
