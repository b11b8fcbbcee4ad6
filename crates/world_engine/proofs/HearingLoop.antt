-- The next of those who receive, in turn.
use Rattle.std.proofs.Common.{◌≡◌, ℕ, ◌+◌, ◌<◌, List, [], ◌∷◌, ◌++◌, map, take, length, get_or, Some, Option, refl, sym, ◌∙◌, ap, subst, arith, Contains}
use Rattle.std.specs.Prelude.{All, AllPairs, slice_get, IsSome}
use Rattle.std.proofs.lemmas.List.{map_more, length-map}
use Rattle.std.proofs.lemmas.Option.{slice_get_within, get_or_from_slice_get, slice_get-get_or, slice_get_read}
use Rattle.radio_model.specs.declared.sending.Sending.{Sending}
use Rattle.event_calendar.specs.Orders.{Due}
use Rattle.world_engine.specs.Fields.{FieldState, FieldIsShown, id_of, ids_of}
use Rattle.world_engine.specs.FieldSteps.{reading_of, readings_at}
use Rattle.world_engine.specs.FieldHearings.{StandAtPlaces, AllHear}
use Rattle.world_engine.proofs.GoesOn.{same_ids}
use Rattle.world_engine.proofs.HearersAtPlaces.{places_more, node_there, id_at, new_node}
use Rattle.world_engine.proofs.HearersTold.{one_more_hears, still_shown_to}

-- those before this one have received
abbrev pub HeardBy : (ℕ → ℕ → ℕ) → Sending → List ℕ → FieldState → List Due → FieldState → List Due → Type 0
HeardBy clocks x nodes old old_due new new_due =
    (places : List ℕ) × StandAtPlaces (ids_of old) nodes places × AllHear clocks x.end x places old old_due new new_due

abbrev first : ℕ × ℕ → ℕ
first p = p.0

pub some_there : (hs : List (ℕ × ℕ)) (i : ℕ) (o : Option (ℕ × ℕ)) → o ≡ slice_get hs i → i < length hs → IsSome o
some_there hs i o is below = subst (λ (p : Option (ℕ × ℕ)). IsSome p) (sym (is ∙ slice_get-get_or hs i (0, 0) below)) refl

module _ (hs : List (ℕ × ℕ)) (i : ℕ) {h : ℕ × ℕ} (here : slice_get hs i ≡ Some h) {clocks : ℕ → ℕ → ℕ} {x : Sending} {old now : FieldState}
    {old_due now_due : List Due} (heard : HeardBy clocks x (map first (take i hs)) old old_due now now_due) where
  ids : ids_of now ≡ ids_of old
  ids = same_ids old now old_due now_due heard.2.same

  pub known_hearer : All (λ (p : ℕ × ℕ). Contains (ids_of old) p.0) hs → Contains (ids_of now) h.0
  known_hearer all =
      let at = get_or_from_slice_get hs i h h here in
      subst (λ (l : List ℕ). Contains l h.0) (sym ids) (subst (λ (p : ℕ × ℕ). Contains (ids_of old) p.0) at (all i h (slice_get_within hs i h here)))

  module _ (p : ℕ) (place : slice_get (ids_of now) p ≡ Some h.0) where
    in_old : slice_get (ids_of old) p ≡ Some h.0
    in_old = subst (λ (l : List ℕ). slice_get l p ≡ Some h.0) ids place

    pub place_below : p < length old.devices
    place_below = let within = slice_get_within (ids_of old) p h.0 in_old in let long = length-map old.devices id_of in omega (arith, within, long)

    pub hearer_shown : ((q : ℕ) → q < length old.devices → FieldIsShown x.end old old_due q) → FieldIsShown x.end now now_due p
    hearer_shown shown = still_shown_to clocks x.end x heard.0 p old now old_due now_due heard.2 (shown p place_below)

    not_yet : AllPairs (λ p q. p.0 < q.0) hs → Contains heard.0 p → ⊥
    not_yet ascend there =
        let at = get_or_from_slice_get hs i h h here in
        let id : id_at (ids_of old) p ≡ (get_or hs i h).0 = get_or_from_slice_get (ids_of old) p h.0 0 in_old ∙ ap first (sym at) in
        new_node hs i h ascend (slice_get_within hs i h here)
        (subst (λ (n : ℕ). Contains (map first (take i hs)) n) id (node_there (ids_of old) (map first (take i hs)) heard.0 heard.1 p there))

    pub heard_next : AllPairs (λ p q. p.0 < q.0) hs → {clock : ℕ → ℕ} → clock ≡ clocks p → {new : FieldState} {new_due : List Due}
        → AllHear (λ q. clock) x.end x (p ∷ []) now now_due new new_due
        → HeardBy clocks x (map first (take (i + 1) hs)) old old_due new new_due
    heard_next ascend {clock} reads {new} {new_due} hears =
        let at = get_or_from_slice_get hs i h h here in
        let more : map first (take (i + 1) hs) ≡ map first (take i hs) ++ h.0 ∷ [] = map_more first hs i h (slice_get_within hs i h here)
        ∙ ap (λ (p : ℕ × ℕ). map first (take i hs) ++ p.0 ∷ []) at in (
          heard.0 ++ p ∷ [],
          subst (λ (l : List ℕ). StandAtPlaces (ids_of old) l (heard.0 ++ p ∷ [])) (sym more)
              (places_more (ids_of old) (map first (take i hs)) heard.0 p h.0 heard.1 in_old),
          one_more_hears clocks clock x.end x heard.0 p old now new old_due now_due new_due heard.2 hears (not_yet ascend) reads,
        )

-- the clock at a place
pub reads_there : {C : Type 0} (R : C → ℕ → ℕ) (cs : List C) (i p : ℕ) (c : C) → i ≡ p → i < length cs → c ≡ get_or cs i c → R c ≡ readings_at R cs p
reads_there R cs i p c place below is = ap (reading_of R) (sym (slice_get_read cs (length cs) i c refl below is)) ∙ ap (readings_at R cs) place
