-- A flood ends: with each step there is less that its nodes may still do.
use Rattle.std.proofs.Common.{◌≡◌, ◌≢◌, ℕ, ◌+◌, ◌-◌, ◌<◌, ◌≤◌, List, [], ◌∷◌, ◌++◌, length, true, false, inl, inr, refl, sym, ◌∙◌, ap}
use Rattle.std.proofs.Common.{subst, arith, nat_eq, eq-eqb}
use Rattle.std.specs.Prelude.{Contains}
use Rattle.std.proofs.lemmas.Bool.{cond_both, cases_eq, cond-true, cond-false, ne_eqb}
use Rattle.std.proofs.lemmas.List.Elements.{filter_map-append}
use Rattle.std.proofs.lemmas.List.{length-append, append-nil}
use Rattle.glossy_relay.specs.FloodState.{FloodState}
use Rattle.glossy_relay.specs.Relaying.{fits, after_heard, first_of, counter_of}
use Rattle.radio_model.specs.declared.sending.Sending.{Sending}
use Rattle.air_log.specs.declared.entry.Entry.{Entry}
use Rattle.air_log.specs.NodeEvents.{Event, Heard, Ended, own_end, own_ends}
use Rattle.lwb_base.proofs.Elements.{not_in_none, contains_head, contains_tail, contains_cases}
use Rattle.lwb_flood.specs.declared.member.Act.TheVariants.{Sends, Off}
use Rattle.lwb_flood.specs.declared.member.Member.{Member}
use Rattle.lwb_flood.specs.FloodWorlds.{World, member_changed_at, with_change, member_with_act, after_own, hearing_by, flood_tuned_entry, world_after_start}
use Rattle.lwb_flood.specs.FloodWorlds.{own_ended, gone, world_after_end, world_after_reception, heard_by_all, is_last}
use Rattle.air_log.specs.declared.entry.Entry.TheVariants.{Sent}
use Rattle.air_log.specs.Entries.{heard_entry}
use Rattle.lwb_flood.proofs.FloodSoFar.{events_in}
use Rattle.lwb_flood.proofs.WorldLists.{events_sent_own, events_sent_other, events_heard_own, events_heard_other, events_tuned}

-- the transmissions of a node that have begun
abbrev pub started : List Entry → ℕ → ℕ
started air v = length (own_ends (events_in air v))

-- it may begin and end this many more
abbrev pub left : List Entry → Member → ℕ
left air m = m.flood.limit + m.flood.limit - (m.flood.sent + started air m.node)

abbrev pub total : List Entry → List Member → ℕ
total air [] = 0
total air (m ∷ ms) = left air m + total air ms

module _ (air more : List Entry) (v : ℕ) (change : Member → Member) where
  one : (m : Member) → (m.node ≢ v → left more m ≤ left air m) → (m.node ≡ v → left more (change m) ≤ left air m)
      → left more (member_changed_at v change m) ≤ left air m
  one m other own = elim (cases_eq m.node v) [
    | inl is ↦ subst (λ (n : Member). left more n ≤ left air m) (sym (cond-true (nat_eq m.node v) (change m) m (eq-eqb m.node v is))) (own is)
    | inr not ↦ subst (λ (n : Member). left more n ≤ left air m) (sym (cond-false (nat_eq m.node v) (change m) m (ne_eqb m.node v not))) (other not)
  ]

  pub total_at_most : (ms : List Member) → ((m : Member) → Contains ms m → m.node ≢ v → left more m ≤ left air m)
      → ((m : Member) → Contains ms m → m.node ≡ v → left more (change m) ≤ left air m) → total more (with_change v change ms) ≤ total air ms
  total_at_most [] other own = omega arith
  total_at_most (m ∷ ms) other own =
      let here = one m (other m (contains_head m ms)) (own m (contains_head m ms)) in
      let rest = total_at_most ms (λ n there. other n (contains_tail m ms n there)) (λ n there. own n (contains_tail m ms n there)) in
      omega arith

  pub total_less : (ms : List Member) → ((m : Member) → Contains ms m → m.node ≢ v → left more m ≤ left air m)
      → ((m : Member) → Contains ms m → m.node ≡ v → left more (change m) ≤ left air m)
      → (m : Member) → Contains ms m → m.node ≡ v → left more (change m) < left air m → total more (with_change v change ms) < total air ms
  total_less [] other own m there is less = absurd (not_in_none m there)
  total_less (n ∷ ms) other own m there is less =
      elim (contains_cases n ms m there) [
        | inl here ↦
            let rest = total_at_most ms (λ k in_it. other k (contains_tail n ms k in_it)) (λ k in_it. own k (contains_tail n ms k in_it)) in
            let down : left more (member_changed_at v change n) < left air n =
            subst (λ (k : Member). left more (member_changed_at v change k) < left air k) (sym here)
            (subst (λ (k : Member). left more k < left air m) (sym (cond-true (nat_eq m.node v) (change m) m (eq-eqb m.node v is))) less) in
            omega arith
        | inr later ↦
            let first = one n (other n (contains_head n ms)) (own n (contains_head n ms)) in
            let rest = total_less ms (λ k in_it. other k (contains_tail n ms k in_it)) (λ k in_it. own k (contains_tail n ms k in_it)) m later is less in
            omega arith
      ]

-- how a log with one entry more counts
started_more : (es : List Event) (x : Sending) → length (own_ends (es ++ Ended x ∷ [])) ≡ length (own_ends es) + 1
started_more es x = ap length (filter_map-append own_end es (Ended x ∷ [])) ∙ length-append (own_ends es) (x.end ∷ [])

started_same : (es : List Event) (x : Sending) → length (own_ends (es ++ Heard x ∷ [])) ≡ length (own_ends es)
started_same es x = ap length (filter_map-append own_end es (Heard x ∷ []) ∙ append-nil (own_ends es))

pub started_sent_own : (air : List Entry) (x : Sending) → started (air ++ Sent x ∷ []) x.node ≡ started air x.node + 1
started_sent_own air x = ap (λ (es : List Event). length (own_ends es)) (events_sent_own air x x.node refl) ∙ started_more (events_in air x.node) x

pub started_sent_other : (air : List Entry) (x : Sending) (v : ℕ) → x.node ≢ v → started (air ++ Sent x ∷ []) v ≡ started air v
started_sent_other air x v not = ap (λ (es : List Event). length (own_ends es)) (events_sent_other air x v not)

pub started_heard : (air : List Entry) (u : ℕ) (x : Sending) (v : ℕ) → started (air ++ heard_entry u x ∷ []) v ≡ started air v
started_heard air u x v =
    elim (cases_eq u v) [
      | inl is ↦ ap (λ (es : List Event). length (own_ends es)) (events_heard_own air u x v is) ∙ started_same (events_in air v) x
      | inr not ↦ ap (λ (es : List Event). length (own_ends es)) (events_heard_other air u x v not)
    ]

pub started_tuned : (air : List Entry) (u t v : ℕ) → started (air ++ flood_tuned_entry u t ∷ []) v ≡ started air v
started_tuned air u t v = ap (λ (es : List Event). length (own_ends es)) (events_tuned air u t v)

heard_limits : (s : FloodState) (p : List ℕ) → ((after_heard s p).limit ≡ s.limit) × ((after_heard s p).sent ≡ s.sent)
heard_limits s p = cond_both (fits s p) (record s { waiting = Rattle.std.proofs.Common.nat_lt (counter_of p) 11; first = first_of s.first p }) s
    (λ (f : FloodState). (f.limit ≡ s.limit) × (f.sent ≡ s.sent)) (λ _. (refl, refl)) (λ _. (refl, refl))

abbrev pub remaining : World → ℕ
remaining w = total w.air w.members

-- a transmission that begins, at a node that may begin one
pub begun_less : (x : Sending) (w : World) (m : Member) → Contains w.members m → m.node ≡ x.node
    → m.flood.sent + started w.air m.node < m.flood.limit + m.flood.limit → remaining (world_after_start x w) < remaining w
begun_less x w m there is room =
    total_less w.air (w.air ++ Sent x ∷ []) x.node (member_with_act (Sends x)) w.members
    (λ n in_it not. omega (arith, started_sent_other w.air x n.node (λ same. not (sym same))))
    (λ n in_it same. let up = started_sent_own w.air x in omega (arith, ap (started (w.air ++ Sent x ∷ [])) same, ap (started w.air) same))
    m there is (let up = started_sent_own w.air x in omega (arith, ap (started (w.air ++ Sent x ∷ [])) is, ap (started w.air) is))

pub own_ended_less : (x : Sending) (w : World) (m : Member) → Contains w.members m → m.node ≡ x.node
    → m.flood.sent + started w.air m.node < m.flood.limit + m.flood.limit → remaining (own_ended x w) < remaining w
own_ended_less x w m there is room =
    total_less w.air w.air x.node after_own w.members (λ n in_it not. omega arith) (λ n in_it same. omega arith) m there is (omega arith)

gone_at_most : (v t : ℕ) (w : World) → remaining (gone v t w) ≤ remaining w
gone_at_most v t w =
    total_at_most w.air (w.air ++ flood_tuned_entry v t ∷ []) v (member_with_act Off) w.members
    (λ n in_it not. omega (arith, started_tuned w.air v t n.node))
    (λ n in_it same. omega (arith, started_tuned w.air v t n.node))

heard_at_most : (clock : ℕ → ℕ) (x : Sending) (v : ℕ) (w : World) → remaining (world_after_reception clock x v w) ≤ remaining w
heard_at_most clock x v w =
    total_at_most w.air (w.air ++ heard_entry v x ∷ []) v (hearing_by clock x) w.members
    (λ n in_it not. omega (arith, started_heard w.air v x n.node))
    (λ n in_it same. let both = heard_limits n.flood x.packet in omega (arith, started_heard w.air v x n.node, both.0, both.1))

pub all_heard_at_most : (clocks : ℕ → ℕ → ℕ) (x : Sending) (vs : List ℕ) (w : World) → remaining (heard_by_all clocks x vs w) ≤ remaining w
all_heard_at_most clocks x [] w = omega arith
all_heard_at_most clocks x (v ∷ vs) w =
    let one = heard_at_most (clocks v) x v w in let rest = all_heard_at_most clocks x vs (world_after_reception (clocks v) x v w) in omega arith

pub ended_less : (x : Sending) (w : World) (m : Member) → Contains w.members m → m.node ≡ x.node
    → m.flood.sent + started w.air m.node < m.flood.limit + m.flood.limit → remaining (world_after_end x w) < remaining w
ended_less x w m there is room =
    let less = own_ended_less x w m there is room in
    cond_both (is_last x.node w.members) (gone x.node x.end (own_ended x w)) (own_ended x w) (λ (n : World). remaining n < remaining w)
    (λ _. let off = gone_at_most x.node x.end (own_ended x w) in omega arith)
    (λ _. less)
