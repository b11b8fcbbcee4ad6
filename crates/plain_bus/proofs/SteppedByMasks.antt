-- The stations from step to step of a flood.
use Rattle.std.proofs.Common.{◌≡◌, ◌≢◌, ◌<◌, ◌≤◌, ℕ, All, ◌+◌, suc, zero, List, [], ◌∷◌, ◌++◌, Bool, true, false, ◌&&◌, inl, inr, Option, Some, None}
use Rattle.std.proofs.Common.{is_some, nat_lt, refl, sym, ◌∙◌, ap, subst, length, map, take, get_or, ◌==◌, if◌then◌else◌, arith, add-one, add-zero}
use Rattle.std.specs.Int.{bit_at}
use Rattle.std.specs.Option.{option_and_then}
use Rattle.std.proofs.lemmas.Bool.{cases_eq, false≢true, and_parts}
use Rattle.std.proofs.lemmas.Bool.Decides.{nat_tests}
use Rattle.std.proofs.lemmas.List.{get_or-map, length-map, take_more}
use Rattle.std.proofs.lemmas.Nat.Bits.{bit_at-zero}
use Rattle.std.proofs.lemmas.Option.{same_Some}
use Rattle.link_trace.specs.Masks.{IsMaskUpto}
use Rattle.link_trace.specs.Sealed.{Traced}
use Rattle.link_trace.proofs.MaskBits.{one_with, one_without, same_tests}
use Rattle.bus_terms.specs.Flooding.{Setting, Moment, STEPS, has, offer, pick, may_hear, takes, hears, first_heard, next, beginning, moment}
use Rattle.bus_terms.proofs.HeardOrigins.{heard_of}
use Rattle.bus_terms.proofs.Options.{inspect, sends_parts, heard_parts}
use Rattle.plain_bus.specs.FloodMasks.{IsMaskedFlood, SendsForInitiators, AreAt, station_at, station_after, station_first, AddsSender}
use Rattle.plain_bus.proofs.HeardByMasks.{bit_tells, place_of}
use Rattle.plain_bus.proofs.Picks.{nothing_picked}
use Rattle.plain_bus.specs.declared.station.Flood.{Flood}
use Rattle.plain_bus.specs.declared.station.Station.{Station}
use Rattle.plain_bus.specs.declared.station.Stations.{Stations}

-- who sends takes part, for an initiator, at each moment
known_next : (s : Setting) (k : ℕ) (m : Moment) → SendsForInitiators s m → SendsForInitiators s (next s k m)
known_next s k m known = record {
  senders = λ v o is. here v o (sends_parts (nat_lt (k + 1) STEPS) (hears s m k v) o is).1;
  origins = λ v o is. heard_of s k m known.origins v o (sends_parts (nat_lt (k + 1) STEPS) (hears s m k v) o is).1;
}
  where
    here : (v o : ℕ) → hears s m k v ≡ Some o → has s.everyone v ≡ true
    here v o is = (and_parts _ _ (and_parts _ _ (heard_parts (may_hear s m v) (takes s m v) (pick s m k v) o is).0).0).0

known_first : (s : Setting) → ((v : ℕ) → has s.initiators v ≡ true → has s.everyone v ≡ true) → SendsForInitiators s (beginning s)
known_first s inside = record {
  senders = λ v o is. inside v (sends_parts (has s.initiators v) (Some v) o is).0;
  origins = λ v o is. let p = sends_parts (has s.initiators v) (Some v) o is in subst (λ (u : ℕ). has s.initiators u ≡ true) (same_Some v o p.1) p.0;
}

pub known_at : (s : Setting) → ((v : ℕ) → has s.initiators v ≡ true → has s.everyone v ≡ true) → (k : ℕ) → SendsForInitiators s (moment s k)
unfolding moment
known_at s inside zero = known_first s inside
known_at s inside (suc k) = known_next s k (moment s k) (known_at s inside k)

moment_next : (s : Setting) (k : ℕ) → moment s (suc k) ≡ next s k (moment s k)
unfolding moment
moment_next s k = refl

pub moment_more : (s : Setting) (k : ℕ) → moment s (k + 1) ≡ next s k (moment s k)
moment_more s k = ap (λ (n : ℕ). moment s n) (add-one k) ∙ moment_next s k

pub moment_first : (s : Setting) → moment s 0 ≡ beginning s
unfolding moment
moment_first s = refl

-- a station after a step
pub stepped : (s : Setting) (k : ℕ) (m : Moment) (v : ℕ) (x : Station) (heard : Option ℕ) → x ≡ station_at m v → heard ≡ hears s m k v
    → station_after k x heard ≡ station_at (next s k m) v
stepped s k m v x heard is hearing = ap (λ (y : Station). station_after k y heard) is ∙ ap (λ (o : Option ℕ). station_after k (station_at m v) o) hearing

pub times_stepped : (k : ℕ) (x : Station) (heard : Option ℕ) → x.times ≤ k → (station_after k x heard).times ≤ k + 1
times_stepped k x heard few = by_sends (is_some x.sends)
  where
    by_sends : (b : Bool) → x.times + (if b then 1 else 0) ≤ k + 1
    by_sends true = omega (arith, few)
    by_sends false = omega (arith, few)

-- one station more
pub one_more_station : (f : ℕ → Station) (nodes : List ℕ) (i : ℕ) (x : Station) (old new : List Station) → i < length nodes → old ≡ take i (map f nodes)
    → x ≡ f (get_or nodes i 0) → new ≡ old ++ x ∷ []
    → new ≡ take (i + 1) (map f nodes)
one_more_station f nodes i x old new below is at adds =
    adds ∙ ap (λ (l : List Station). l ++ x ∷ []) is
    ∙ ap (λ (y : Station). take i (map f nodes) ++ y ∷ []) (at ∙ sym (get_or-map f nodes i 0 x below))
    ∙ sym (take_more (map f nodes) i x (omega (arith, below, length-map nodes f)))

-- a mask with one sender more, and the same one
pub added : (mask place : ℕ) (x : Station) (new : ℕ) → is_some x.sends ≡ true → bit_at new place ≡ 1
    → ((i : ℕ) → i ≢ place → bit_at new i ≡ bit_at mask i) → AddsSender mask place x new
added mask place x new sends set others = record {
  own = set ∙ ap (λ (b : Bool). if b then 1 else bit_at mask place) (sym sends);
  others = others;
}

pub not_added : (mask place : ℕ) (x : Station) → is_some x.sends ≡ false → AddsSender mask place x mask
not_added mask place x rests = record {
  own = ap (λ (b : Bool). if b then 1 else bit_at mask place) (sym rests);
  others = λ i other. refl;
}

pub one_more_sender : (test : ℕ → Bool) (nodes : List ℕ) (i : ℕ) (x : Station) (mask new : ℕ) → AddsSender mask i x new
    → IsMaskUpto test nodes i mask → is_some x.sends ≡ test (get_or nodes i 0) → IsMaskUpto test nodes (i + 1) new
one_more_sender test nodes i x mask new adds is at = by_sends (is_some x.sends) refl
  where
    by_sends : (b : Bool) → is_some x.sends ≡ b → IsMaskUpto test nodes (i + 1) new
    by_sends true sends =
        one_with nodes test i mask is new (adds.own ∙ ap (λ (b : Bool). if b then 1 else bit_at mask i) sends) adds.others (sym at ∙ sends)
    by_sends false sends =
        λ k.
        elim (cases_eq k i) [
          | inl same ↦ ap (bit_at new) same ∙ adds.own ∙ ap (λ (b : Bool). if b then 1 else bit_at mask i) sends ∙ sym (ap (bit_at mask) same)
          | inr other ↦ adds.others k other
        ]
        ∙ one_without nodes test i mask is (sym at ∙ sends) k

pub no_station : (test : ℕ → Bool) (nodes : List ℕ) → IsMaskUpto test nodes 0 0
no_station test nodes i = bit_at-zero i ∙ sym (nothing i)
  where
    below_none : (i : ℕ) → nat_lt i 0 ≡ false
    below_none i = grind (arith, nat_tests)

    nothing : (i : ℕ) → ◌≡◌ {A = ℕ} (if nat_lt i 0 && test (get_or nodes i 0) then 1 else 0) 0
    nothing i = rw (below_none i) refl

-- a node at the beginning
pub begun : (s : Setting) (t : Traced) (f : Flood) (place : ℕ) → IsMaskedFlood s t f → place < length t.nodes → station_first f place (get_or t.nodes place 0)
    ≡ station_at (beginning s) (get_or t.nodes place 0)
begun s t f place flood below =
    let v = get_or t.nodes place 0 in
    let first : Bool → Station = λ b. record { node = v; sends = if b then Some v else None; times = 0; heard = None } in
    ap first (bit_tells t.nodes (has s.initiators) f.initiators place flood.initiators below)

-- where nobody sends nothing changes
module _ (s : Setting) (t : Traced) (f : Flood) (k : ℕ) (m : Moment) (flood : IsMaskedFlood s t f) (known : SendsForInitiators s m) (x : Stations)
    (at : AreAt m t.nodes x)
    (none : x.senders ≡ 0) where
  silent : (u : ℕ) → m.sends u ≡ None
  silent u = elim (inspect (m.sends u)) [
    | inl is ↦ is
    | inr some ↦ absurd (sends_not some.0 some.1)
  ]
    where
      sends_not : (o : ℕ) → m.sends u ≡ Some o → ⊥
      sends_not o is =
          let place = place_of t.nodes u (flood.here u (known.senders u o is)) in
          let tells = bit_tells t.nodes (λ v. is_some (m.sends v)) x.senders place.0 at.senders place.1 in
          let unset : (bit_at x.senders place.0 == 1) ≡ false = ap (λ (n : ℕ). bit_at n place.0 == 1) none ∙ ap (λ (n : ℕ). n == 1) (bit_at-zero place.0) in
          false≢true (sym unset ∙ tells ∙ ap (λ (v : ℕ). is_some (m.sends v)) place.2 ∙ ap (λ (w : Option ℕ). is_some w) is)

  offered : (v u : ℕ) → offer s m k v u ≡ None
  offered v u = by_link (s.passes k u v) (m.sends u) (silent u)
    where
      by_link : (b : Bool) (w : Option ℕ) → w ≡ None → (if b then w else None) ≡ None
      by_link true w is = is
      by_link false w is = refl

  unheard : (v : ℕ) → hears s m k v ≡ None
  unheard v =
      ap (λ (o : Option ℕ). if may_hear s m v then option_and_then (λ p. if takes s m v p then Some p else None) o else None)
      (nothing_picked s m k v known (offered v))
      ∙ by_may (may_hear s m v)
    where
      by_may : (b : Bool) → ◌≡◌ {A = Option ℕ} (if b then None else None) None
      by_may true = refl
      by_may false = refl

  sends_same : (v : ℕ) → (next s k m).sends v ≡ m.sends v
  sends_same v = ap (λ (o : Option ℕ). if nat_lt (k + 1) STEPS then o else None) (unheard v) ∙ by_step (nat_lt (k + 1) STEPS) ∙ sym (silent v)
    where
      by_step : (b : Bool) → ◌≡◌ {A = Option ℕ} (if b then None else None) None
      by_step true = refl
      by_step false = refl

  times_same : (v : ℕ) → (next s k m).times v ≡ m.times v
  times_same v = ap (λ (o : Option ℕ). m.times v + (if is_some o then 1 else 0)) (silent v) ∙ add-zero (m.times v)

  heard_same : (v : ℕ) → (next s k m).heard v ≡ m.heard v
  heard_same v = ap (λ (o : Option ℕ). first_heard (m.heard v) k o) (unheard v) ∙ by_first (m.heard v)
    where
      by_first : (h : Option (ℕ × ℕ)) → first_heard h k None ≡ h
      by_first None = refl
      by_first (Some h) = refl

  same_station : (v : ℕ) → station_at m v ≡ station_at (next s k m) v
  same_station v i = record { node = v; sends = sym (sends_same v) i; times = sym (times_same v) i; heard = sym (heard_same v) i }

  pub nothing_changes : AreAt (next s k m) t.nodes x
  nothing_changes = record {
    each = at.each ∙ (λ i. map (λ v. same_station v i) t.nodes);
    senders = same_tests t.nodes (λ v. is_some (m.sends v)) (λ v. is_some ((next s k m).sends v)) x.senders
        (λ v. ap (λ (o : Option ℕ). is_some o) (sym (sends_same v))) at.senders;
  }

-- no node yet
pub nobody : (xs : List Station) (n : ℕ) → xs ≡ [] → All (λ (x : Station). x.times ≤ n) xs
nobody xs n is = subst (λ (l : List Station). All (λ (x : Station). x.times ≤ n) l) (sym is) (λ k d below. absurd (omega (arith, below)))
