-- What becomes of the tunings of a node as its radio goes to a channel or off.
use Rattle.std.proofs.Common.{◌≡◌, ℕ, ◌<◌, ◌≤◌, ◌⊎◌, inl, inr, List, [], ◌∷◌, Bool, true, false, ◌==◌, nat_lt, if◌then◌else◌}
use Rattle.std.proofs.Common.{Option, Some, None, option_map, IfSome, refl, sym, ◌∙◌, ap, subst, arith, eq-eqb, eqb-true, ltb-true}
use Rattle.std.proofs.lemmas.Bool.{cases_lt, cond_both, cond-true, cond-false, and_parts, and_from, and_right, ne_eqb, le-ltb, lt-ltb, false≢true}
use Rattle.std.specs.Bool.{⊤}
use Rattle.lwb_base.specs.declared.order.Order.TheVariants.{Listen, Off}
use Rattle.radio_model.specs.declared.tuning.Tuned.{Tuned}
use Rattle.radio_model.specs.declared.tuning.Past.{Past}
use Rattle.radio_model.specs.declared.tuning.RadioTuning.{RadioTuning}
use Rattle.radio_model.specs.OnAir.{Tuning, goes_on_with}
use Rattle.radio_model.specs.Stations.{last_at, is_tuned_to, tuning_in, tuning_out, tuning_after, over_at, over_after}
use Rattle.air_log.specs.Devices.{Device, Listening, Made, with_tuning, listens_to, obeyed, tunes}
use Rattle.air_log.specs.DeviceStates.{DeviceState, whole}
use Rattle.air_log.specs.Tunings.{Tunings, channel_of, channel_in, tuned_on, retuned, EndedBefore, IsByChannel}
use Rattle.air_log.specs.Tunings.{listening_of, past_tuning, one_more, tunings_with}

-- the tunings that ended, if the radio goes off at t
abbrev off_at : ℕ → ℕ → Tunings → List Tuning
off_at node t x = with_tuning node t x.listening x.ended

-- from off at t, to a channel or to none
abbrev from_off : ℕ → Option ℕ → List Tuning → Tunings
from_off t None es = record { listening = None; ended = es }
from_off t (Some rank) es = tuned_on rank t es

-- the last one ended before t, or it is one of this node that ends at t and is not empty
abbrev HasEnded : ℕ → ℕ → List Tuning → Type 0
HasEnded node t [] = ⊤
HasEnded node t (e ∷ es) = (e.end < t) ⊎ ((e.node ≡ node) × (e.start < t) × (e.end ≡ t) × EndedBefore t es)

some_same : (a b : ℕ) → (let left : Option ℕ = Some a in left ≡ Some b) → a ≡ b
some_same a b is = cc

-- its channel
channel_on : (rank t : ℕ) (es : List Tuning) → channel_in (tuned_on rank t es) ≡ Some rank
channel_on rank t [] = refl
channel_on rank t (e ∷ es) =
    cond_both (goes_on_with e.rank e.end rank t) (record { listening = Some (record { rank = rank; since = e.start }); ended = es })
    (record { listening = Some (record { rank = rank; since = t }); ended = e ∷ es }) (λ (x : Tunings). channel_in x ≡ Some rank) (λ is. refl) (λ is. refl)

channel_heard : (rank : ℕ) (l : Option Listening) → listens_to rank l ≡ true → option_map channel_of l ≡ Some rank
channel_heard rank None is = absurd (false≢true is)
channel_heard rank (Some l) is = ap (λ (r : ℕ). Some r) (eqb-true l.rank rank is)

heard_channel : (rank : ℕ) (l : Option Listening) → option_map channel_of l ≡ Some rank → listens_to rank l ≡ true
heard_channel rank None is = cc
heard_channel rank (Some l) is = eq-eqb l.rank rank (some_same l.rank rank is)

pub channel_retuned : (node t : ℕ) (c : Option ℕ) (x : Tunings) → channel_in (retuned node t c x) ≡ c
channel_retuned node t None x = refl
channel_retuned node t (Some rank) x =
    cond_both (listens_to rank x.listening) x (tuned_on rank t (off_at node t x)) (λ (y : Tunings). channel_in y ≡ Some rank)
    (channel_heard rank x.listening) (λ not. channel_on rank t (off_at node t x))

-- the same channel still
off_still : (node t : ℕ) (l : Option Listening) (es : List Tuning) → option_map channel_of l ≡ None
    → (let off : Tunings = record { listening = None; ended = with_tuning node t l es } in off ≡ record { listening = l; ended = es })
off_still node t None es is = refl
off_still node t (Some l) es is = cc

pub retuned_same : (node t : ℕ) (c : Option ℕ) (x : Tunings) → channel_in x ≡ c → retuned node t c x ≡ x
retuned_same node t None x is = off_still node t x.listening x.ended is
retuned_same node t (Some rank) x is =
    cond-true (listens_to rank x.listening) x (tuned_on rank t (off_at node t x)) (heard_channel rank x.listening is)

-- a new tuning, where the last one ended before
fresh_on : (rank t : ℕ) (es : List Tuning) → EndedBefore t es
    → tuned_on rank t es ≡ record { listening = Some (record { rank = rank; since = t }); ended = es }
fresh_on rank t [] ended = refl
fresh_on rank t (e ∷ es) ended =
    cond-false (goes_on_with e.rank e.end rank t) _ _ (and_right (e.rank == rank) (e.end == t) (ne_eqb e.end t (λ same. omega (arith, ended, same))))

same_tuning : (e : Tuning) (rank node t : ℕ) → e.rank ≡ rank → e.node ≡ node → e.end ≡ t
    → record { rank = rank; node = node; start = e.start; end = t } ≡ e
same_tuning e rank node t a b c =
    sym (ap (λ (r : ℕ). record e { rank = r }) a ∙ ap (λ (n : ℕ). record e { rank = rank; node = n }) b
    ∙ ap (λ (u : ℕ). record e { rank = rank; node = node; end = u }) c)

-- to a channel at t and off again at t
off_again : (node t : ℕ) (c : Option ℕ) (es : List Tuning) → HasEnded node t es → off_at node t (from_off t c es) ≡ es
off_again node t None es has = refl
off_again node t (Some rank) [] has = cond-false (nat_lt t t) _ _ (le-ltb t t (omega arith))
off_again node t (Some rank) (e ∷ es) has =
    cond_both (goes_on_with e.rank e.end rank t) (record { listening = Some (record { rank = rank; since = e.start }); ended = es })
    (record { listening = Some (record { rank = rank; since = t }); ended = e ∷ es }) (λ (y : Tunings). off_at node t y ≡ e ∷ es)
    (λ is.
    let both = and_parts (e.rank == rank) (e.end == t) is in
    let now : e.end ≡ t = eqb-true e.end t both.1 in
    elim has [
      | inl before ↦ absurd (omega (arith, before, now))
      | inr own ↦
          cond-true (nat_lt e.start t) (record { rank = rank; node = node; start = e.start; end = t } ∷ es) es (lt-ltb e.start t own.1)
          ∙ ap (λ (x : Tuning). x ∷ es) (same_tuning e rank node t (eqb-true e.rank rank both.0) own.0 own.2)
    ])
    (λ not. cond-false (nat_lt t t) _ _ (le-ltb t t (omega arith)))

retuned_off : (node t : ℕ) (b c : Option ℕ) (es : List Tuning) → HasEnded node t es → retuned node t c (from_off t b es) ≡ from_off t c es
retuned_off node t b None es has = ap (λ (l : List Tuning). record { listening = None; ended = l }) (off_again node t b es has)
retuned_off node t None (Some rank) es has = refl
retuned_off node t (Some b) (Some rank) es has =
    cond_both (listens_to rank (tuned_on b t es).listening) (tuned_on b t es) (tuned_on rank t (off_at node t (tuned_on b t es)))
    (λ (y : Tunings). y ≡ tuned_on rank t es)
    (λ is. ap (λ (r : ℕ). tuned_on r t es) (some_same b rank (sym (channel_on b t es) ∙ channel_heard rank (tuned_on b t es).listening is)))
    (λ not. ap (tuned_on rank t) (off_again node t (Some b) es has))

-- what was before t
off_before : (node t : ℕ) (l : Option Listening) (es : List Tuning) → IfSome l (λ l. l.since < t) → EndedBefore t es
    → HasEnded node t (with_tuning node t l es)
off_before node t None [] since ended = tt
off_before node t None (e ∷ es) since ended = inl ended
off_before node t (Some l) es since ended =
    subst (HasEnded node t)
    (sym (cond-true (nat_lt l.since t) (record { rank = l.rank; node = node; start = l.since; end = t } ∷ es) es (lt-ltb l.since t since)))
    (inr (refl, since, refl, ended))

goes_on : (node t rank : ℕ) (l : Listening) (es : List Tuning) → l.since < t → l.rank ≡ rank
    → tuned_on rank t (with_tuning node t (Some l) es) ≡ record { listening = Some l; ended = es }
goes_on node t rank l es since same =
    let last : Tuning = record { rank = l.rank; node = node; start = l.since; end = t } in
    ap (tuned_on rank t) (cond-true (nat_lt l.since t) (last ∷ es) es (lt-ltb l.since t since))
    ∙ cond-true (goes_on_with l.rank t rank t) (record { listening = Some (record { rank = rank; since = l.since }); ended = es })
    (record { listening = Some (record { rank = rank; since = t }); ended = last ∷ es })
    (and_from (l.rank == rank) (t == t) (eq-eqb l.rank rank same) (eq-eqb t t refl))
    ∙ ap (λ (r : ℕ). record { listening = Some (record { rank = r; since = l.since }); ended = es }) (sym same)

retuned_by_off : (node t : ℕ) (c : Option ℕ) (l : Option Listening) (es : List Tuning) → IfSome l (λ l. l.since < t)
    → retuned node t c (record { listening = l; ended = es }) ≡ from_off t c (with_tuning node t l es)
retuned_by_off node t None l es since = refl
retuned_by_off node t (Some rank) None es since = refl
retuned_by_off node t (Some rank) (Some l) es since =
    let off = with_tuning node t (Some l) es in
    cond_both (l.rank == rank) (record { listening = Some l; ended = es }) (tuned_on rank t off) (λ (y : Tunings). y ≡ tuned_on rank t off)
    (λ is. sym (goes_on node t rank l es since (eqb-true l.rank rank is))) (λ not. refl)

-- of two channels of a tick the last one counts
over : (node t : ℕ) (b c : Option ℕ) (before : Tunings) → IfSome before.listening (λ l. l.since < t) → EndedBefore t before.ended
    → retuned node t c (retuned node t b before) ≡ retuned node t c before
over node t b c before since ended =
    ap (retuned node t c) (retuned_by_off node t b before.listening before.ended since)
    ∙ retuned_off node t b c (off_at node t before) (off_before node t before.listening before.ended since ended)
    ∙ sym (retuned_by_off node t c before.listening before.ended since)

pub retuned_twice : (node t : ℕ) (b c : Option ℕ) (x : Tunings) → IsByChannel node t x → retuned node t c (retuned node t b x) ≡ retuned node t c x
retuned_twice node t b c x by =
    let a = channel_in x in
    let before = by.before in
    ap (λ (y : Tunings). retuned node t c (retuned node t b y)) (sym by.is) ∙ ap (retuned node t c) (over node t a b before by.since by.ended)
    ∙ over node t b c before by.since by.ended ∙ sym (over node t a c before by.since by.ended) ∙ ap (retuned node t c) by.is

pub by_channel_retuned : (node t : ℕ) (c : Option ℕ) (x : Tunings) → IsByChannel node t x → IsByChannel node t (retuned node t c x)
by_channel_retuned node t c x by = record {
  before = by.before;
  since = by.since;
  ended = by.ended;
  is = ap (λ (b : Option ℕ). retuned node t b by.before) (channel_retuned node t c x)
      ∙ sym (over node t (channel_in x) c by.before by.since by.ended) ∙ ap (retuned node t c) by.is;
}

-- a later tick
pub ended_later : (t u : ℕ) (es : List Tuning) → t ≤ u → EndedBefore t es → EndedBefore u es
ended_later t u [] le ended = tt
ended_later t u (e ∷ es) le ended = omega (arith, le, ended)

-- what is given of the tunings at a tick
record StandsAt (t : ℕ) (x : Tunings) : Type 0 where
  since : IfSome x.listening (λ l. l.since ≤ t)
  last : (u : ℕ) → t < u → EndedBefore u x.ended
  ended : IfSome x.listening (λ l. l.since < t → EndedBefore t x.ended)

last_by : (node t : ℕ) (es : List Tuning) → HasEnded node t es → (u : ℕ) → t < u → EndedBefore u es
last_by node t [] has u less = tt
last_by node t (e ∷ es) (inl before) u less = omega (arith, before, less)
last_by node t (e ∷ es) (inr own) u less = omega (arith, own.2, less)

off_stands : (node t : ℕ) (c : Option ℕ) (es : List Tuning) → HasEnded node t es → StandsAt t (from_off t c es)
off_stands node t None es has = record { since = tt; last = last_by node t es has; ended = tt }
off_stands node t (Some rank) [] has = record { since = omega arith; last = λ u less. tt; ended = λ less. tt }
off_stands node t (Some rank) (e ∷ es) has =
    cond_both (goes_on_with e.rank e.end rank t) (record { listening = Some (record { rank = rank; since = e.start }); ended = es })
    (record { listening = Some (record { rank = rank; since = t }); ended = e ∷ es }) (StandsAt t)
    (λ is. elim has [
      | inl before ↦ absurd (let now = eqb-true e.end t (and_parts (e.rank == rank) (e.end == t) is).1 in omega (arith, before, now))
      | inr own ↦ record { since = omega (arith, own.1); last = λ u less. ended_later t u es (omega (arith, less)) own.3; ended = λ less. own.3 }
    ])
    (λ not. record { since = omega arith; last = last_by node t (e ∷ es) has; ended = λ less. absurd (omega (arith, less)) })

stands : (node t : ℕ) (x : Tunings) → IsByChannel node t x → StandsAt t x
stands node t x by =
    let before = by.before in
    subst (StandsAt t) (sym (retuned_by_off node t (channel_in x) before.listening before.ended by.since) ∙ by.is)
    (off_stands node t (channel_in x) (off_at node t before) (off_before node t before.listening before.ended by.since by.ended))

since_before : (t u : ℕ) (l : Option Listening) → t < u → IfSome l (λ l. l.since ≤ t) → IfSome l (λ l. l.since < u)
since_before t u None less since = tt
since_before t u (Some l) less since = omega (arith, less, since)

pub by_channel_later : (node t u : ℕ) (x : Tunings) → t ≤ u → IsByChannel node t x → IsByChannel node u x
by_channel_later node t u x le by = elim (cases_lt t u) [
  | inl less ↦
      let at = stands node t x by in
      record {
        before = x;
        since = since_before t u x.listening less at.since;
        ended = at.last u less;
        is = retuned_same node u (channel_in x) x refl;
      }
  | inr not ↦ let same : t ≡ u = omega (arith, le, not) in subst (λ (v : ℕ). IsByChannel node v x) same by
]

-- as a radio keeps them: it goes off
off_kept : (node t : ℕ) (now : Option Tuned) (last : Option Past) (es : List Tuning)
    → with_tuning node t (option_map listening_of now) (one_more node last es) ≡ one_more node (last_at now last t) (one_more node (over_at now last t) es)
off_kept node t None last es = refl
off_kept node t (Some o) last es = by (nat_lt o.since t)
  where
    by : (b : Bool)
        → (if b then record { rank = o.rank; node = node; start = o.since; end = t } ∷ one_more node last es else one_more node last es)
        ≡ one_more node (if b then Some (record { rank = o.rank; since = o.since; until = t }) else last) (one_more node (if b then last else None) es)
    by true = refl
    by false = refl

pub kept_off : (node t : ℕ) (k : RadioTuning) (es : List Tuning)
    → retuned node t None (tunings_with node k es) ≡ tunings_with node (tuning_after None t k) (one_more node (over_after None t k) es)
kept_off node t k es = ap (λ (l : List Tuning). record { listening = None; ended = l }) (off_kept node t k.now k.last es)

-- it goes on
on_kept : (node t rank : ℕ) (last : Option Past) (es : List Tuning) → EndedBefore t es
    → tuned_on rank t (one_more node last es) ≡ tunings_with node (tuning_in rank t (record { now = None; last = last })) es
on_kept node t rank None es ended = fresh_on rank t es ended
on_kept node t rank (Some p) es ended = by (goes_on_with p.rank p.until rank t)
  where
    by : (b : Bool)
        → ◌≡◌ {A = Tunings} (if b then record { listening = Some (record { rank = rank; since = p.since }); ended = es }
        else record { listening = Some (record { rank = rank; since = t }); ended = past_tuning node p ∷ es })
        (tunings_with node (record { now = Some (record { rank = rank; since = if b then p.since else t }); last = if b then None else Some p }) es)
    by true = refl
    by false = refl

module _ (node t : ℕ) (k : RadioTuning) (es : List Tuning) (by : IsByChannel node t (tunings_with node k es)) (ended : EndedBefore t es) where
  over_ended : (now : Option Tuned) → k.now ≡ now → EndedBefore t (one_more node (over_at now k.last t) es)
  over_ended None at = ended
  over_ended (Some o) at =
      let before = subst (λ (n : Option Tuned). IfSome (option_map listening_of n) (λ l. l.since < t → EndedBefore t (one_more node k.last es))) at
      (stands node t (tunings_with node k es) by).ended in
      cond_both (nat_lt o.since t) k.last None (λ (p : Option Past). EndedBefore t (one_more node p es))
      (λ is. before (ltb-true o.since t is)) (λ not. ended)

  pub kept_ended : (c : Option ℕ) → EndedBefore t (one_more node (over_after c t k) es)
  kept_ended None = over_ended k.now refl
  kept_ended (Some rank) =
      cond_both (is_tuned_to k.now rank) None (over_at k.now k.last t) (λ (p : Option Past). EndedBefore t (one_more node p es))
      (λ is. ended) (λ not. over_ended k.now refl)

  pub kept_goes : (c : Option ℕ)
      → retuned node t c (tunings_with node k es) ≡ tunings_with node (tuning_after c t k) (one_more node (over_after c t k) es)
  kept_goes None = kept_off node t k es
  kept_goes (Some rank) =
      ap (λ (b : Bool). if b then tunings_with node k es else tuned_on rank t (off_at node t (tunings_with node k es))) (tested k.now)
      ∙ choose (is_tuned_to k.now rank)
    where
      off : tuned_on rank t (off_at node t (tunings_with node k es))
          ≡ tunings_with node (tuning_in rank t (tuning_out t k)) (one_more node (over_at k.now k.last t) es)
      off = ap (tuned_on rank t) (off_kept node t k.now k.last es)
          ∙ on_kept node t rank (last_at k.now k.last t) (one_more node (over_at k.now k.last t) es) (over_ended k.now refl)

      tested : (now : Option Tuned) → listens_to rank (option_map listening_of now) ≡ is_tuned_to now rank
      tested None = refl
      tested (Some o) = refl

      choose : (b : Bool)
          → (if b then tunings_with node k es else tuned_on rank t (off_at node t (tunings_with node k es)))
          ≡ tunings_with node (if b then k else tuning_in rank t (tuning_out t k)) (one_more node (if b then None else over_at k.now k.last t) es)
      choose true = refl
      choose false = off

-- by the orders of a device
tuned_whole : (rank t : ℕ) (s : DeviceState) (made : Made) (es : List Tuning)
    → tunes rank t (whole s (record { listening = None; ended = es }) made) es ≡ whole s (tuned_on rank t es) made
tuned_whole rank t s made [] = refl
tuned_whole rank t s made (e ∷ es) = by (goes_on_with e.rank e.end rank t)
  where
    by : (b : Bool)
        → (let d = whole s (record { listening = None; ended = e ∷ es }) made in ◌≡◌ {A = Device}
        (if b then record d { listening = Some (record { rank = rank; since = e.start }); made = record (d.made) { tuned = es } }
        else record d { listening = Some (record { rank = rank; since = t }) })
        (whole s (if b then record { listening = Some (record { rank = rank; since = e.start }); ended = es }
        else record { listening = Some (record { rank = rank; since = t }); ended = e ∷ es }) made))
    by true = refl
    by false = refl

pub listens_retuned : (clock : ℕ → ℕ) (node t rank : ℕ) (s : DeviceState) (x : Tunings) (made : Made)
    → obeyed clock node t (whole s x made) (Listen rank) ≡ whole (record s { channel = Some rank }) (retuned node t (Some rank) x) made
listens_retuned clock node t rank s x made = by (listens_to rank x.listening)
  where
    by : (b : Bool)
        → (if b then whole s x made else tunes rank t (whole s (record { listening = None; ended = off_at node t x }) made) (off_at node t x))
        ≡ whole s (if b then x else tuned_on rank t (off_at node t x)) made
    by true = refl
    by false = tuned_whole rank t s made (off_at node t x)

pub off_retuned : (clock : ℕ → ℕ) (node t : ℕ) (s : DeviceState) (x : Tunings) (made : Made)
    → obeyed clock node t (whole s x made) Off ≡ whole (record s { channel = None }) (retuned node t None x) made
off_retuned clock node t s x made = refl
