-- What a node receives in a step, read off the stations and the masks.
use Rattle.std.proofs.Common.{◌≡◌, ◌<◌, ℕ, suc, List, [], ◌∷◌, Bool, true, false, not, ◌&&◌, ◌||◌, inl, inr, Option, Some, None, is_some, is_none, nat_lt, refl}
use Rattle.std.proofs.Common.{sym, ◌∙◌, ap, length, map, get_or, min, ◌==◌, if◌then◌else◌, bit_and, arith}
use Rattle.std.specs.Int.{bit_at}
use Rattle.std.specs.Option.{option_and_then}
use Rattle.std.proofs.lemmas.Bool.{false≢true, or_cases, eqb-true, lt-ltb}
use Rattle.std.proofs.lemmas.List.{get_or-map, length-map}
use Rattle.std.proofs.lemmas.Nat.Bits.{bit_at_and}
use Rattle.lwb_base.proofs.Truths.{of_bit}
use Rattle.link_trace.specs.Masks.{IsMask}
use Rattle.link_trace.specs.Passes.{passes}
use Rattle.link_trace.specs.Sealed.{Traced}
use Rattle.bus_terms.specs.Flooding.{Setting, Moment, has, offer, pick, may_hear, agrees, takes, hears}
use Rattle.bus_terms.proofs.Options.{sends_parts}
use Rattle.plain_bus.specs.FloodMasks.{IsMaskedFlood, SendsForInitiators, AreOffers, station_at, origin_sent_at, may_hear_at, takes_at}
use Rattle.plain_bus.specs.declared.station.Flood.{Flood}
use Rattle.plain_bus.specs.declared.station.Station.{Station}

-- a mask tells of the node at a place
pub bit_tells : (nodes : List ℕ) (test : ℕ → Bool) (mask place : ℕ) → IsMask test nodes mask → place < length nodes
    → (bit_at mask place == 1) ≡ test (get_or nodes place 0)
bit_tells nodes test mask place is below =
    ap (λ (n : ℕ). n == 1) (is place ∙ ap (λ (b : Bool). if b && test (get_or nodes place 0) then 1 else 0) (lt-ltb place (length nodes) below))
    ∙ of_bit (test (get_or nodes place 0))

-- and of two masks together
both_of : (a b : Bool) → (min (if a then 1 else 0) (if b then 1 else 0) == 1) ≡ (a && b)
both_of true true = refl
both_of true false = refl
both_of false true = refl
both_of false false = refl

both_tell : (nodes : List ℕ) (p q : ℕ → Bool) (a b place : ℕ) → IsMask p nodes a → IsMask q nodes b → place < length nodes
    → (bit_at (bit_and a b) place == 1) ≡ (p (get_or nodes place 0) && q (get_or nodes place 0))
both_tell nodes p q a b place first second below =
    let u = get_or nodes place 0 in
    let here = lt-ltb place (length nodes) below in
    ap (λ (n : ℕ). n == 1) (bit_at_and a b place)
    ∙ ap (λ (n : ℕ). min n (bit_at b place) == 1) (first place ∙ ap (λ (c : Bool). if c && p u then 1 else 0) here)
    ∙ ap (λ (n : ℕ). min (if p u then 1 else 0) n == 1) (second place ∙ ap (λ (c : Bool). if c && q u then 1 else 0) here)
    ∙ both_of (p u) (q u)

sent_if : (p : Bool) (w : Option ℕ) → (if p then w else None) ≡ (if p && is_some w then w else None)
sent_if true None = refl
sent_if true (Some o) = refl
sent_if false w = refl

-- a node that is there has a place
pub place_of : (nodes : List ℕ) (u : ℕ) → has nodes u ≡ true → (i : ℕ) × (i < length nodes) × (get_or nodes i 0 ≡ u)
place_of [] u there = absurd (false≢true there)
place_of (x ∷ nodes) u there = elim (or_cases (x == u) _ there) [
  | inl same ↦ (0, omega arith, eqb-true x u same)
  | inr later ↦ (let p = place_of nodes u later in (suc p.0, omega (arith, p.1), p.2))
]

module _ (s : Setting) (m : Moment) (t : Traced) (f : Flood) (k : ℕ) (flood : IsMaskedFlood s t f) (known : SendsForInitiators s m) where
  station_there : (i : ℕ) (d : Station) → i < length t.nodes → get_or (map (station_at m) t.nodes) i d ≡ station_at m (get_or t.nodes i 0)
  station_there i d below = get_or-map (station_at m) t.nodes i 0 d below

  module _ (v reaching senders : ℕ) (reach : IsMask (λ u. passes t.lines f.frame f.slot k u v) t.nodes reaching)
      (sends : IsMask (λ u. is_some (m.sends u)) t.nodes senders) where
    given : (i : ℕ) (d : Station) → i < length t.nodes
        → offer s m k v (get_or (map (station_at m) t.nodes) i d).node ≡ origin_sent_at (map (station_at m) t.nodes)
        (bit_and reaching senders) i d
    given i d below =
        let u = get_or t.nodes i 0 in
        let is = station_there i d below in
        ap (λ (x : Station). offer s m k v x.node) is
        ∙ ap (λ (b : Bool). if b then m.sends u else None) (flood.links k u v)
        ∙ sent_if (passes t.lines f.frame f.slot k u v) (m.sends u)
        ∙ ap (λ (b : Bool). if b then m.sends u else None)
        (sym (both_tell t.nodes (λ w. passes t.lines f.frame f.slot k w v) (λ w. is_some (m.sends w)) reaching senders i reach sends below))
        ∙ ap (λ (x : Station). if bit_at (bit_and reaching senders) i == 1 then x.sends else None) (sym is)

    -- the masks give what reaches v
    pub offers_read : AreOffers (offer s m k v) (map (station_at m) t.nodes) (bit_and reaching senders)
    offers_read = record {
      each = λ i d below. given i d (omega (arith, below, size));
      only = λ u o is.
          let at = place_of t.nodes u (flood.here u (known.senders u o (sends_parts (s.passes k u v) (m.sends u) o is).1)) in
          (at.0, omega (arith, at.1, size), λ d. ap (λ (x : Station). x.node) (station_there at.0 d at.1) ∙ at.2);
    }
      where
        size : length (map (station_at m) t.nodes) ≡ length t.nodes
        size = length-map t.nodes (station_at m)

  module _ (place : ℕ) (below : place < length t.nodes) where
    abbrev v : ℕ
    v = get_or t.nodes place 0

    pub station_read : (xs : List Station) (x : Station) → xs ≡ map (station_at m) t.nodes → x ≡ get_or xs place x → x ≡ station_at m v
    station_read xs x are is = is ∙ ap (λ (l : List Station). get_or l place x) are ∙ station_there place x below

    may_read : (x : Station) → x ≡ station_at m v → may_hear_at f x place ≡ may_hear s m v
    may_read x is =
        ap (λ (y : Station). may_hear_at f y place) is
        ∙ ap (λ (b : Bool). b && is_none (m.sends v) && nat_lt (m.times v) f.limit) (bit_tells t.nodes (has s.everyone) f.everyone place flood.everyone below)
        ∙ ap (λ (n : ℕ). has s.everyone v && is_none (m.sends v) && nat_lt (m.times v) n) (sym flood.limit)

    takes_read : (x : Station) (o : ℕ) → x ≡ station_at m v → takes_at f x place o ≡ takes s m v o
    takes_read x o is =
        ap (λ (y : Station). takes_at f y place o) is
        ∙ ap (λ (b : Bool). (not b || (v == o)) && agrees (m.heard v) o) (bit_tells t.nodes (has s.initiators) f.initiators place flood.initiators below)

    abbrev hearing : Bool → Option ℕ → Option ℕ
    hearing may got = if may then option_and_then (λ o. if takes s m v o then Some o else None) got else None

    pub deaf : (x : Station) → x ≡ station_at m v → may_hear_at f x place ≡ false → hears s m k v ≡ None
    deaf x is may = ap (λ (b : Bool). hearing b (pick s m k v)) (sym (may_read x is) ∙ may)

    pub unreached : pick s m k v ≡ None → hears s m k v ≡ None
    unreached none = ap (λ (o : Option ℕ). hearing (may_hear s m v) o) none ∙ by_may (may_hear s m v)
      where
        by_may : (b : Bool) → hearing b None ≡ None
        by_may true = refl
        by_may false = refl

    pub refused : (x : Station) (o : ℕ) → x ≡ station_at m v → pick s m k v ≡ Some o → takes_at f x place o ≡ false → hears s m k v ≡ None
    refused x o is got refuses =
        ap (λ (w : Option ℕ). hearing (may_hear s m v) w) got
        ∙ ap (λ (b : Bool). if may_hear s m v then (if b then Some o else None) else None) (sym (takes_read x o is) ∙ refuses) ∙ by_may (may_hear s m v)
      where
        by_may : (b : Bool) → ◌≡◌ {A = Option ℕ} (if b then None else None) None
        by_may true = refl
        by_may false = refl

    pub heard : (x : Station) (o : ℕ) → x ≡ station_at m v → may_hear_at f x place ≡ true → pick s m k v ≡ Some o → takes_at f x place o ≡ true
        → hears s m k v ≡ Some o
    heard x o is may got takes_it =
        ap (λ (b : Bool). hearing b (pick s m k v)) (sym (may_read x is) ∙ may)
        ∙ ap (λ (w : Option ℕ). hearing true w) got
        ∙ ap (λ (b : Bool). if b then Some o else None) (sym (takes_read x o is) ∙ takes_it)
