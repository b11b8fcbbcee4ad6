-- The receptions of the worked first round are those of the rule of the air.
use Rattle.std.proofs.Common.{◌≡◌, ◌≢◌, ℕ, ◌+◌, ◌<◌, ◌≤◌, List, [], ◌∷◌, ◌++◌, Bool, true, false, not, ◌==◌, ◌&&◌, ◌||◌, nat_lt, nat_le, get_or, Contains}
use Rattle.std.proofs.Common.{length, All, AllPairs, refl, sym, ◌∙◌, ap, subst, arith, inl, inr, ◌⊎◌, true≢false, eqb-true, ltb-true, lt-ltb}
use Rattle.std.specs.List.{list_all, list_any}
use Rattle.std.proofs.lemmas.Bool.{and_parts, and_from, leb-true, le-leb, eqb-false, not-true}
use Rattle.std.proofs.lemmas.List.{get_or_default}
use Rattle.std.proofs.lemmas.List.Elements.{All-nil, All-cons}
use Rattle.std.proofs.lemmas.List.Kept.{AllPairs-cons}
use Rattle.radio_model.specs.declared.sending.Sending.{Sending}
use Rattle.radio_model.specs.OnAir.{Hearing, Tuning}
use Rattle.radio_model.specs.Hearing.{Scene, HearsInScene, Meets, IsTuned, Arrives, Before}
use Rattle.air_log.specs.HearsAir.{scene_of}
use Rattle.air_log.specs.Trails.{run_end}
use Rattle.air_log.specs.Lawful.{FollowsHearing}
use Rattle.air_log.specs.FirstRound.{first_round, first_round_log, sent_in_round, heard_in_round, first_round_tuned_by_host, tuned_by_other}
use Rattle.lwb_base.proofs.Elements.{not_in_none, contains_cases, contains_head, contains_tail, all_passes}

abbrev pub tuned_in_round : List Tuning
tuned_in_round = first_round_tuned_by_host ++ tuned_by_other

none : Tuning
none = record { rank = 0; node = 0; start = 0; end = 0 }

abbrev scene : Scene
scene = scene_of first_round.profile first_round.trace first_round_log

-- what holds of each element, written out
abbrev Each : {X : Type 0} → (X → Type 0) → List X → Type 0
Each P [] = Unit {0}
Each P (x ∷ xs) = P x × Each P xs

each_at : {X : Type 0} (P : X → Type 0) (xs : List X) (x : X) → Each P xs → Contains xs x → P x
each_at P [] x each there = absurd (not_in_none x there)
each_at P (y ∷ ys) x each there = elim (contains_cases y ys x there) [ inl is ↦ subst P is each.0 | inr later ↦ each_at P ys x each.1 later ]

-- transmissions one after another
abbrev InTurn : List Sending → Type 0
InTurn [] = Unit {0}
InTurn (x ∷ xs) = (list_all (λ (y : Sending). nat_le x.end y.start && nat_lt y.start y.end) xs ≡ true) × InTurn xs

meets_self : (xs : List Sending) → InTurn xs → (x y : Sending) → Contains xs x → Contains xs y → Meets x y → x ≡ y
meets_self [] turn x y in_x in_y meets = absurd (not_in_none x in_x)
meets_self (z ∷ zs) turn x y in_x in_y meets =
    by_cases (meets_self zs turn.1 x y) (contains_cases z zs x in_x) (contains_cases z zs y in_y)
  where
    after : (w : Sending) → Contains zs w → (z.end ≤ w.start) × (w.start < w.end)
    after w there =
        let both = and_parts _ _ (all_passes (λ (y : Sending). nat_le z.end y.start && nat_lt y.start y.end) zs turn.0 w there) in
        (leb-true z.end w.start both.0, ltb-true w.start w.end both.1)

    by_cases : (Contains zs x → Contains zs y → Meets x y → x ≡ y) → (z ≡ x) ⊎ Contains zs x → (z ≡ y) ⊎ Contains zs y → x ≡ y
    by_cases rest (inl a) (inl b) = sym a ∙ b
    by_cases rest (inl a) (inr b) = absurd (omega (arith, after y b, meets.after, ap (λ (w : Sending). w.end) a))
    by_cases rest (inr a) (inl b) = absurd (omega (arith, after x a, meets.before, ap (λ (w : Sending). w.end) b))
    by_cases rest (inr a) (inr b) = rest a b meets

round_in_turn : InTurn sent_in_round
round_in_turn = (refl, (refl, (refl, (refl, (refl, (refl, (refl, (refl, tt))))))))

-- each reception of the log
record IsGood (h : Hearing) : Type 0 where
  sent : Contains sent_in_round h.sending
  tuning : Tuning
  there : Contains tuned_in_round tuning
  node : tuning.node ≡ h.node
  rank : tuning.rank ≡ h.sending.rank
  since : tuning.start ≤ h.sending.start
  until : h.sending.end ≤ tuning.end
  other : h.sending.node ≢ h.node
  arrives : Arrives scene h.node h.sending
  in_run : h.sending.end < run_end first_round

hears_it : (h : Hearing) → IsGood h → HearsInScene scene h.node h.sending
hears_it h good = record {
  sent = good.sent;
  tuned =
      λ t from below. record {
        tuning = good.tuning;
        there = good.there;
        node = good.node;
        rank = good.rank;
        since = omega (arith, good.since, from);
        until = omega (arith, good.until, below);
      };
  silent = λ y there node meets. good.other (ap (λ (w : Sending). w.node) (meets_self sent_in_round round_in_turn h.sending y good.sent there meets) ∙ node);
  arrives = good.arrives;
  first =
      λ y rival same. subst (λ (w : Sending). Before h.sending w) (meets_self sent_in_round round_in_turn h.sending y good.sent rival.sent rival.meets)
      (record { start = omega arith; node = λ is. omega arith });
  close =
      λ y rival same. subst (λ (w : Sending). w.start ≤ h.sending.start + scene.numbers.delta)
      (meets_self sent_in_round round_in_turn h.sending y good.sent rival.sent rival.meets) (omega arith);
  chosen = inl (λ y rival. ap (λ (w : Sending). w.packet) (sym (meets_self sent_in_round round_in_turn h.sending y good.sent rival.sent rival.meets)));
}

-- a tuning of its node that lasts all through it
abbrev spans : Tuning → Hearing → Bool
spans e h =
    ((e.node == h.node) && (e.rank == h.sending.rank))
    && ((nat_le e.start h.sending.start && nat_le h.sending.end e.end) && (not (h.sending.node == h.node) && nat_lt h.sending.end (run_end first_round)))

-- by the place of the tuning
good : (k : ℕ) (h : Hearing) → Contains sent_in_round h.sending → k < length tuned_in_round → spans (get_or tuned_in_round k none) h ≡ true
    → Arrives scene h.node h.sending → IsGood h
good k h sent below is arrives =
    let e = get_or tuned_in_round k none in
    let parts = and_parts _ _ is in
    let same = and_parts _ _ parts.0 in
    let times = and_parts _ _ parts.1 in
    let long = and_parts _ _ times.0 in
    let rest = and_parts _ _ times.1 in
    record {
      sent = sent;
      tuning = e;
      there = (k, below, get_or_default tuned_in_round k e none below);
      node = eqb-true e.node h.node same.0;
      rank = eqb-true e.rank h.sending.rank same.1;
      since = leb-true e.start h.sending.start long.0;
      until = leb-true h.sending.end e.end long.1;
      other = eqb-false h.sending.node h.node (not-true _ rest.0);
      arrives = arrives;
      in_run = ltb-true h.sending.end (run_end first_round) rest.1;
    }

all_good : Each IsGood heard_in_round
all_good = (
  good 6 _ (0, omega arith, refl) (omega arith) refl refl,
  (
    good 2 _ (1, omega arith, refl) (omega arith) refl refl,
    (
      good 6 _ (2, omega arith, refl) (omega arith) refl refl,
      (
        good 4 _ (4, omega arith, refl) (omega arith) refl refl,
        (good 0 _ (5, omega arith, refl) (omega arith) refl refl, (good 4 _ (6, omega arith, refl) (omega arith) refl refl, tt)),
      ),
    ),
  ),
)

-- whoever is tuned when a transmission begins sent it, or receives it
abbrev is_heard : ℕ → Sending → Bool
is_heard u x = list_any (λ (h : Hearing). (h.node == u) && (h.sending.start == x.start)) heard_in_round

abbrev covers : Sending → Tuning → Bool
covers x e = (e.node == x.node) || not (nat_le e.start x.start && nat_lt x.start e.end) || is_heard e.node x

abbrev is_covered : Sending → Bool
is_covered x = list_all (covers x) tuned_in_round

covered : list_all is_covered sent_in_round ≡ true
covered = refl

some_hearing : (u start : ℕ) (hs : List Hearing) → list_any (λ (h : Hearing). (h.node == u) && (h.sending.start == start)) hs ≡ true
    → (h : Hearing) × Contains hs h × (h.node ≡ u) × (h.sending.start ≡ start)
some_hearing u start [] is = absurd (true≢false (sym is))
some_hearing u start (h ∷ hs) is = by_test ((h.node == u) && (h.sending.start == start)) refl is (some_hearing u start hs)
  where
    by_test : (b : Bool) → ((h.node == u) && (h.sending.start == start)) ≡ b
        → (b || list_any (λ (h : Hearing). (h.node == u) && (h.sending.start == start)) hs) ≡ true
        → (list_any (λ (h : Hearing). (h.node == u) && (h.sending.start == start)) hs ≡ true
        → (g : Hearing) × Contains hs g × (g.node ≡ u) × (g.sending.start ≡ start))
        → (g : Hearing) × Contains (h ∷ hs) g × (g.node ≡ u) × (g.sending.start ≡ start)
    by_test true at is rest = let both = and_parts _ _ at in (h, contains_head h hs, eqb-true h.node u both.0, eqb-true h.sending.start start both.1)
    by_test false at is rest = let g = rest is in (g.0, contains_tail h hs g.0 g.1, g.2, g.3)

abbrev is_long : Sending → Bool
is_long x = nat_lt x.start x.end

long_enough : list_all is_long sent_in_round ≡ true
long_enough = refl

takes_time : (x : Sending) → Contains sent_in_round x → x.start < x.end
takes_time x there = ltb-true x.start x.end (all_passes is_long sent_in_round long_enough x there)

from_cover : (a b c : Bool) → (a || not b || c) ≡ true → (a ≡ true → ⊥) → b ≡ true → c ≡ true
from_cover true b c is apart here = absurd (apart refl)
from_cover false true c is apart here = is
from_cover false false c is apart here = absurd (true≢false (sym here))

heard_there : (v : ℕ) (x : Sending) → HearsInScene scene v x → Contains heard_in_round (record { node = v; sending = x })
heard_there v x hears =
    let long : x.start < x.end = takes_time x hears.sent in
    let on : IsTuned scene v x.rank x.start = hears.tuned x.start (omega arith) long in
    let cover = all_passes (covers x) tuned_in_round (all_passes is_covered sent_in_round covered x hears.sent) on.tuning on.there in
    let self : x.node ≡ v → ⊥ = λ is. hears.silent x hears.sent is (record { before = long; after = long }) in
    let among = from_cover _ _ _ cover (λ is. self (sym (eqb-true on.tuning.node x.node is) ∙ on.node))
    (and_from _ _ (le-leb on.tuning.start x.start on.since) (lt-ltb x.start on.tuning.end on.until)) in
    let h = some_hearing on.tuning.node x.start heard_in_round among in
    let good = each_at IsGood heard_in_round h.0 all_good h.1 in
    let whole : h.0.sending.start < h.0.sending.end = takes_time h.0.sending good.sent in
    let same : h.0.sending ≡ x = meets_self sent_in_round round_in_turn h.0.sending x good.sent hears.sent
    (record { before = omega (arith, h.3, long); after = omega (arith, h.3, whole) }) in
    let node : h.0.node ≡ v = h.2 ∙ on.node in
    let is : h.0 ≡ record { node = v; sending = x } =
    ap (λ (n : ℕ). record { node = n; sending = h.0.sending }) node ∙ ap (λ (y : Sending). record { node = v; sending = y }) same in
    subst (λ (g : Hearing). Contains heard_in_round g) is h.1

-- no reception is there twice
abbrev Rising : List Hearing → Type 0
Rising [] = Unit {0}
Rising (g ∷ gs) = (list_all (λ (h : Hearing). nat_lt g.sending.start h.sending.start) gs ≡ true) × Rising gs

apart : (g : Hearing) (hs : List Hearing) → list_all (λ (h : Hearing). nat_lt g.sending.start h.sending.start) hs ≡ true → All (λ h. g ≢ h) hs
apart g [] all = All-nil (λ h. g ≢ h)
apart g (h ∷ hs) all =
    let both = and_parts _ _ all in
    All-cons (λ h. g ≢ h) h hs (λ is. omega (arith, ltb-true g.sending.start h.sending.start both.0, ap (λ (k : Hearing). k.sending.start) is))
    (apart g hs both.1)

rises : (hs : List Hearing) → Rising hs → AllPairs (λ g h. g ≢ h) hs
rises [] rising = λ i j d less within. absurd (omega (arith, within))
rises (g ∷ gs) rising = AllPairs-cons (λ g h. g ≢ h) g gs (apart g gs rising.0) (rises gs rising.1)

pub follows_hearing : FollowsHearing first_round first_round_log
follows_hearing = record {
  heard =
      λ v x. (
        (λ there. (let good = each_at IsGood heard_in_round (record { node = v; sending = x }) all_good there in
            (good.in_run, hears_it (record { node = v; sending = x }) good))),
        (λ is. heard_there v x is.1),
      );
  once = rises heard_in_round (refl, (refl, (refl, (refl, (refl, (refl, tt))))));
}
