-- What is owed always fits, and within how many frames a number of slots has come.
use Rattle.std.proofs.Common.{◌≡◌, ◌<◌, ◌≤◌, ◌+◌, ◌-◌, ◌*◌, ◌/◌, ℕ, suc, List, [], ◌∷◌, true, inl, inr, sym, ◌∙◌, ap, subst, arith, Contains}
use Rattle.law_service.proofs.FirstRounds.{due_is}
use Rattle.law_times.proofs.Words.{add-mul-div_right, lt-mul-div-succ, mul-le-mul_left, mul-suc, contains_cases, not_in_none, IsProfile, Numbers, over_sound}
use Rattle.law_times.proofs.Words.{Tune}
use Rattle.law_times.proofs.Words.{Core, gap_of, total, last_slot, TableEntry, hosts_in, node_before, leads, table_at, round_gap, same_core, IsOnPace}
use Rattle.law_times.proofs.Words.{OwedAlwaysFits, SlotsComeWithin, StreamsKeepPace, latency_bound}
use Rattle.law_times.proofs.PacedHosts.{Keeps, KeepsPace, PacedBy, asked_paced, paced_now}
use Rattle.law_times.proofs.PacedRuns.{at_frame, at_slot}
use Rattle.law_times.proofs.PacedTables.{Each, Paced, fits, more_due}

pub each_of : (P : TableEntry → Type 0) (es : List TableEntry) (e : TableEntry) → Each P es → Contains es e → P e
each_of P [] e all there = absurd (not_in_none e there)
each_of P (x ∷ es) e all there = elim (contains_cases x es e there) [
  | inl same ↦ subst P same all.0
  | inr later ↦ each_of P es e all.1 later
]

pub some_seconds : (p : Numbers) → IsProfile p → 0 < p.seconds
some_seconds p (inl one) = (let is = ap (λ (n : Numbers). n.seconds) one in omega (arith, is))
some_seconds p (inr two) = (let is = ap (λ (n : Numbers). n.seconds) two.0 in omega (arith, is))

pub keep_pace : StreamsKeepPace
keep_pace s accepted slow f v rank due c on tune e there =
    let keeps : KeepsPace s.profile.seconds c = subst (Keeps s.profile.seconds) on
    (at_frame s slow (some_seconds s.profile (over_sound s accepted).profile) f v) in
    let paced : Paced s.profile.seconds due c.table.entries = subst (λ (t : Tune). PacedBy s.profile.seconds t c.table.entries) tune keeps.table in
    each_of (IsOnPace s.profile.seconds due) c.table.entries e paced.pace there

pub owed_fits : OwedAlwaysFits
owed_fits s accepted slow rank f p host hosted c due plan plans =
    let some = some_seconds s.profile (over_sound s accepted).profile in
    let keeps : KeepsPace s.profile.seconds c = subst (Keeps s.profile.seconds) plans.on (at_slot s slow some rank f p (last_slot p) host) in
    let lead = leads s rank f p host hosted (last_slot p) (omega arith) in
    let core = same_core lead.core c (node_before s rank f p (last_slot p) host) lead.on plans.on in
    let due_now : hosts_in rank f c.tune ≡ true = ap (λ (d : Core). hosts_in rank f d.tune) (sym core) ∙ lead.due in
    let first : Paced s.profile.seconds f c.table.entries = paced_now s.profile.seconds rank f c.tune c.table.entries due_now keeps.table in
    let own = asked_paced s.profile.seconds f host c.boot c.kept c.table c.streams keeps.kept keeps.wishes first in
    let entries = (table_at f host c).entries in
    let gap : due ≡ f + gap_of s.profile.seconds f entries =
    due_is s rank f p host hosted c due plan plans ∙ ap (λ (g : ℕ). f + g) (round_gap s.profile.seconds f (table_at f host c)) in
    subst (λ (d : ℕ). total s.profile.seconds d entries ≤ 40) (sym gap) (fits s.profile.seconds f some (table_at f host c) own)

pub spread : (s m k : ℕ) → s * (m + k) ≡ s * m + s * k
spread s m k = grind arith

-- so many slots come due in so many frames
pub come_due : (queue interval seconds frames : ℕ) → 0 < seconds → 0 < interval → (queue * interval + seconds - 1) / seconds ≤ frames
    → (x : ℕ) → x / interval + queue ≤ (x + seconds * frames) / interval
come_due queue interval seconds frames some slow enough x =
    let last = lt-mul-div-succ (queue * interval + seconds - 1) {b = seconds} some in
    let split = mul-suc seconds ((queue * interval + seconds - 1) / seconds) in
    let more : seconds * ((queue * interval + seconds - 1) / seconds) ≤ seconds * frames = mul-le-mul_left seconds enough in
    let one : (queue * interval + seconds - 1) / seconds + 1 ≡ suc ((queue * interval + seconds - 1) / seconds) = omega arith in
    let at = ap (λ (n : ℕ). seconds * n) one in
    let all : queue * interval ≤ seconds * frames = omega (arith, last, split, more, at, some) in
    let whole = add-mul-div_right x queue {z = interval} slow in
    let less : (x + queue * interval) / interval ≤ (x + seconds * frames) / interval =
    more_due (x + queue * interval) (x + seconds * frames) interval slow (omega (arith, all)) in
    omega (arith, whole, less)

pub slots_come : (queue interval seconds : ℕ) → SlotsComeWithin queue interval seconds (latency_bound queue interval seconds)
slots_come queue interval seconds s accepted slow at host m n before to f a b first last same long after enough =
    let some = some_seconds s.profile (over_sound s accepted).profile in
    let early = keep_pace s accepted slow m host first.rank before first.core first.on first.tune a first.there in
    let late = keep_pace s accepted slow n host last.rank to last.core last.on last.tune b last.there in
    let low = early.accepted in
    let sec : ℕ = s.profile.seconds in
    let bound : (queue * a.interval + sec - 1) / sec ≡ (queue * interval + seconds - 1) / seconds =
    ap (λ (n : ℕ). (queue * n + sec - 1) / sec) long ∙ ap (λ (n : ℕ). (queue * interval + n - 1) / n) at in
    let frames : ℕ = to - before in
    let most : (queue * a.interval + sec - 1) / sec ≤ frames = omega (arith, bound, after, enough) in
    let apart : to - a.accepted ≡ before - a.accepted + frames = omega (arith, low, after, enough) in
    let due : sec * (to - a.accepted) ≡ sec * (before - a.accepted) + sec * frames = ap (λ (n : ℕ). sec * n) apart ∙ spread sec (before - a.accepted) frames in
    let grows = come_due queue a.interval sec frames some (let least = early.slow in omega (arith, some, least)) most (sec * (before - a.accepted)) in
    let was = early.granted in
    let is : b.granted ≡ sec * (to - a.accepted) / a.interval =
    late.granted ∙ ap (λ (n : ℕ). sec * (to - n) / b.interval) (sym same.accepted) ∙ ap (λ (n : ℕ). sec * (to - a.accepted) / n) (sym same.interval) in
    let whole : sec * (to - a.accepted) / a.interval ≡ (sec * (before - a.accepted) + sec * frames) / a.interval = ap (λ (n : ℕ). n / a.interval) due in
    omega (arith, grows, was, is, whole)
