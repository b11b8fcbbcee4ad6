-- Logs whose transmissions come one after another: who receives what is found by tests.
use Rattle.std.proofs.Common.{◌≡◌, ◌≢◌, ℕ, ◌+◌, ◌<◌, ◌≤◌, List, [], ◌∷◌, Bool, true, false, not, ◌==◌, ◌&&◌, ◌||◌, nat_lt, nat_le, Contains, All, AllPairs}
use Rattle.std.proofs.Common.{refl, sym, ◌∙◌, ap, subst, arith, inl, inr, ◌⊎◌, ◌↔◌, true≢false, eqb-true, ltb-true, lt-ltb}
use Rattle.std.specs.List.{list_all, list_any}
use Rattle.std.specs.Str.{bytes_eq}
use Rattle.std.proofs.lemmas.Bool.{and_parts, and_from, leb-true, le-leb, not-true, both_ways, eq-eqb}
use Rattle.std.proofs.lemmas.List.Elements.{All-nil, All-cons}
use Rattle.std.proofs.lemmas.List.Kept.{AllPairs-cons}
use Rattle.link_trace.specs.Passes.{passes}
use Rattle.schedule_codec.proofs.Readings.{bytes_same}
use Rattle.radio_model.specs.declared.sending.Sending.{Sending}
use Rattle.radio_model.specs.OnAir.{Hearing, Tuning}
use Rattle.radio_model.specs.Hearing.{Scene, HearsInScene, Meets, IsTuned, TunedThrough, Arrives, Before, frame_of_sending, slot_of_sending, counter_of_sending}
use Rattle.scenario_text.specs.ScenarioParts.{ScenarioParts}
use Rattle.air_log.specs.Trails.{run_end}
use Rattle.lwb_base.proofs.Elements.{not_in_none, contains_cases, all_passes, some_of}

-- the same transmission
abbrev is_same : Sending → Sending → Bool
is_same x y = (x.rank == y.rank) && ((x.node == y.node) && ((x.start == y.start) && ((x.end == y.end) && bytes_eq x.packet y.packet)))

same_from : (x y : Sending) → is_same x y ≡ true → y ≡ x
same_from x y is =
    let rank = and_parts _ _ is in
    let node = and_parts _ _ rank.1 in
    let start = and_parts _ _ node.1 in
    let stop = and_parts _ _ start.1 in
    sym (ap (λ (n : ℕ). record x { rank = n }) (eqb-true x.rank y.rank rank.0)
    ∙ ap (λ (n : ℕ). record x { rank = y.rank; node = n }) (eqb-true x.node y.node node.0)
    ∙ ap (λ (n : ℕ). record y { start = n; end = x.end; packet = x.packet }) (eqb-true x.start y.start start.0)
    ∙ ap (λ (n : ℕ). record y { end = n; packet = x.packet }) (eqb-true x.end y.end stop.0)
    ∙ ap (λ (p : List ℕ). record y { packet = p }) (bytes_same x.packet y.packet stop.1))

-- one ends before the next starts
abbrev comes_after : Sending → Sending → Bool
comes_after x y = nat_le x.end y.start && nat_lt y.start y.end

abbrev pub in_turn : List Sending → Bool
in_turn [] = true
in_turn (x ∷ xs) = list_all (comes_after x) xs && in_turn xs

pub meets_self : (xs : List Sending) → in_turn xs ≡ true → (x y : Sending) → Contains xs x → Contains xs y → Meets x y → x ≡ y
meets_self [] turn x y in_x in_y meets = absurd (not_in_none x in_x)
meets_self (z ∷ zs) turn x y in_x in_y meets =
    by_cases (meets_self zs (and_parts _ _ turn).1 x y) (contains_cases z zs x in_x) (contains_cases z zs y in_y)
  where
    after : (w : Sending) → Contains zs w → (z.end ≤ w.start) × (w.start < w.end)
    after w there =
        let both = and_parts _ _ (all_passes (comes_after z) zs (and_parts _ _ turn).0 w there) in
        (leb-true z.end w.start both.0, ltb-true w.start w.end both.1)

    by_cases : (Contains zs x → Contains zs y → Meets x y → x ≡ y) → (z ≡ x) ⊎ Contains zs x → (z ≡ y) ⊎ Contains zs y → x ≡ y
    by_cases rest (inl a) (inl b) = sym a ∙ b
    by_cases rest (inl a) (inr b) = absurd (omega (arith, after y b, meets.after, ap (λ (w : Sending). w.end) a))
    by_cases rest (inr a) (inl b) = absurd (omega (arith, after x a, meets.before, ap (λ (w : Sending). w.end) b))
    by_cases rest (inr a) (inr b) = rest a b meets

-- a node's reception of a transmission that starts then
abbrev of_start : ℕ → ℕ → Hearing → Bool
of_start u start h = (h.node == u) && (h.sending.start == start)

from_cover : (a b c d : Bool) → (a || not b || c || not d) ≡ true → (a ≡ true → ⊥) → b ≡ true → d ≡ true → c ≡ true
from_cover true b c d is apart here arrives = absurd (apart refl)
from_cover false true true d is apart here arrives = refl
from_cover false true false true is apart here arrives = absurd (true≢false (sym is))
from_cover false true false false is apart here arrives = absurd (true≢false (sym arrives))
from_cover false false c d is apart here arrives = absurd (true≢false (sym here))

module _ (s : ScenarioParts) (sent : List Sending) (heard : List Hearing) (tuned : List Tuning) where
  abbrev scene : Scene
  scene = record { numbers = s.profile; lines = s.trace; sendings = sent; tunings = tuned }

  -- the reception is of a transmission that is there, and whose link passes; its hearer is another node, tuned throughout
  abbrev tunes : Hearing → Tuning → Bool
  tunes h e = (e.node == h.node) && ((e.rank == h.sending.rank) && (nat_le e.start h.sending.start && nat_le h.sending.end e.end))

  abbrev arrives : ℕ → Sending → Bool
  arrives v x = passes s.trace (frame_of_sending s.profile x) (slot_of_sending x) (counter_of_sending x) x.node v

  abbrev is_good : Hearing → Bool
  is_good h =
      list_any (is_same h.sending) sent
      && (list_any (tunes h) tuned && (not (h.sending.node == h.node) && (arrives h.node h.sending && nat_lt h.sending.end (run_end s))))

  record IsGood (h : Hearing) : Type 0 where
    sent_there : Contains sent h.sending
    tuned_in : TunedThrough scene h.node h.sending
    other : h.sending.node ≢ h.node
    passing : Arrives scene h.node h.sending
    in_run : h.sending.end < run_end s

  good_from : (h : Hearing) → is_good h ≡ true → IsGood h
  good_from h is =
      let there = and_parts _ _ is in
      let on = and_parts _ _ there.1 in
      let other = and_parts _ _ on.1 in
      let rest = and_parts _ _ other.1 in
      let x = some_of (is_same h.sending) sent there.0 in
      let e = some_of (tunes h) tuned on.0 in
      let node = and_parts _ _ e.2 in
      let rank = and_parts _ _ node.1 in
      let span = and_parts _ _ rank.1 in
      record {
        sent_there = subst (λ (y : Sending). Contains sent y) (same_from h.sending x.0 x.2) x.1;
        tuned_in = λ t from below. record {
          tuning = e.0;
          there = e.1;
          node = eqb-true e.0.node h.node node.0;
          rank = eqb-true e.0.rank h.sending.rank rank.0;
          since = omega (arith, leb-true e.0.start h.sending.start span.0, from);
          until = omega (arith, leb-true h.sending.end e.0.end span.1, below);
        };
        other = λ same. both_ways (h.sending.node == h.node) (not-true _ other.0) (eq-eqb _ _ same);
        passing = rest.0;
        in_run = ltb-true h.sending.end (run_end s) rest.1;
      }

  -- whoever is tuned when a transmission begins sent it or receives it, or its link does not pass
  abbrev covers : Sending → Tuning → Bool
  covers x e =
      (e.node == x.node) || not (nat_le e.start x.start && nat_lt x.start e.end) || list_any (of_start e.node x.start) heard
      || not (arrives e.node x)

  abbrev is_covered : Sending → Bool
  is_covered x = list_all (covers x) tuned

  abbrev is_long : Sending → Bool
  is_long x = nat_lt x.start x.end

  pub record IsTurned : Type 0 where
    pub turn : in_turn sent ≡ true
    pub good : list_all is_good heard ≡ true
    pub covered : list_all is_covered sent ≡ true
    pub long : list_all is_long sent ≡ true

  module _ (turned : IsTurned) where
    alone : (x y : Sending) → Contains sent x → Contains sent y → Meets x y → x ≡ y
    alone = meets_self sent turned.turn

    takes_time : (x : Sending) → Contains sent x → x.start < x.end
    takes_time x there = ltb-true x.start x.end (all_passes is_long sent turned.long x there)

    good_at : (h : Hearing) → Contains heard h → IsGood h
    good_at h there = good_from h (all_passes is_good heard turned.good h there)

    hears_it : (h : Hearing) → IsGood h → HearsInScene scene h.node h.sending
    hears_it h good = record {
      sent = good.sent_there;
      tuned = good.tuned_in;
      silent = λ y there node meets. good.other (ap (λ (w : Sending). w.node) (alone h.sending y good.sent_there there meets) ∙ node);
      arrives = good.passing;
      first = λ y rival same. subst (λ (w : Sending). Before h.sending w) (alone h.sending y good.sent_there rival.sent rival.meets)
          (record { start = omega arith; node = λ is. omega arith });
      close = λ y rival same. subst (λ (w : Sending). w.start ≤ h.sending.start + scene.numbers.delta)
          (alone h.sending y good.sent_there rival.sent rival.meets) (omega arith);
      chosen = inl (λ y rival. ap (λ (w : Sending). w.packet) (sym (alone h.sending y good.sent_there rival.sent rival.meets)));
    }

    heard_there : (v : ℕ) (x : Sending) → HearsInScene scene v x → Contains heard (record { node = v; sending = x })
    heard_there v x hears =
        let long : x.start < x.end = takes_time x hears.sent in
        let on : IsTuned scene v x.rank x.start = hears.tuned x.start (omega arith) long in
        let cover = all_passes (covers x) tuned (all_passes is_covered sent turned.covered x hears.sent) on.tuning on.there in
        let self : x.node ≡ v → ⊥ = λ is. hears.silent x hears.sent is (record { before = long; after = long }) in
        let passing : arrives on.tuning.node x ≡ true = subst (λ (u : ℕ). arrives u x ≡ true) (sym on.node) hears.arrives in
        let during = and_from _ _ (le-leb on.tuning.start x.start on.since) (lt-ltb x.start on.tuning.end on.until) in
        let among = from_cover _ _ _ _ cover (λ is. self (sym (eqb-true on.tuning.node x.node is) ∙ on.node)) during passing in
        let h = some_of (of_start on.tuning.node x.start) heard among in
        let of = and_parts _ _ h.2 in
        let start : h.0.sending.start ≡ x.start = eqb-true h.0.sending.start x.start of.1 in
        let good = good_at h.0 h.1 in
        let whole : h.0.sending.start < h.0.sending.end = takes_time h.0.sending good.sent_there in
        let same : h.0.sending ≡ x =
        alone h.0.sending x good.sent_there hears.sent (record { before = omega (arith, start, long); after = omega (arith, start, whole) }) in
        let node : h.0.node ≡ v = eqb-true h.0.node on.tuning.node of.0 ∙ on.node in
        let is : h.0 ≡ record { node = v; sending = x } =
        ap (λ (n : ℕ). record { node = n; sending = h.0.sending }) node ∙ ap (λ (y : Sending). record { node = v; sending = y }) same in
        subst (λ (g : Hearing). Contains heard g) is h.1

    -- so what is there is what is received
    pub hears_all : (v : ℕ) (x : Sending) → Contains heard (record { node = v; sending = x }) ↔ ((x.end < run_end s) × HearsInScene scene v x)
    hears_all v x = (
      λ there. (let good = good_at (record { node = v; sending = x }) there in (good.in_run, hears_it (record { node = v; sending = x }) good)),
      λ is. heard_there v x is.1,
    )

-- no reception is there twice, if each is of a later transmission
abbrev is_later : Hearing → Hearing → Bool
is_later g h = nat_lt g.sending.start h.sending.start

abbrev pub rising : List Hearing → Bool
rising [] = true
rising (g ∷ gs) = list_all (is_later g) gs && rising gs

differs : (g : Hearing) (hs : List Hearing) → list_all (is_later g) hs ≡ true → All (λ h. g ≢ h) hs
differs g [] all = All-nil (λ h. g ≢ h)
differs g (h ∷ hs) all =
    let both = and_parts _ _ all in
    let later : g.sending.start < h.sending.start = ltb-true g.sending.start h.sending.start both.0 in
    All-cons (λ h. g ≢ h) h hs (λ is. omega (arith, later, ap (λ (k : Hearing). k.sending.start) is)) (differs g hs both.1)

pub all_differ : (hs : List Hearing) → rising hs ≡ true → AllPairs (λ g h. g ≢ h) hs
all_differ [] rises = λ i j d less within. absurd (omega (arith, within))
all_differ (g ∷ gs) rises = let both = and_parts _ _ rises in AllPairs-cons (λ g h. g ≢ h) g gs (differs g gs both.0) (all_differ gs both.1)
