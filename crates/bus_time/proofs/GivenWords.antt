-- Who sends data and does not host has a word.
use Rattle.std.proofs.Common.{◌≡◌, ◌⊎◌, ◌≤◌, ℕ, inl, inr, List, Contains, true, false, ◌==◌}
use Rattle.std.proofs.Common.{filter_map, Some, None, Option, refl, sym, ◌∙◌, ap, subst, arith, eqb-true}
use Rattle.std.proofs.lemmas.Bool.{cases_lt, and_parts, cond-true}
use Rattle.lwb_base.specs.Messages.{Schedule}
use Rattle.lwb_packets.specs.DataPackets.{is_data}
use Rattle.lwb_member.specs.Said.{data_in}
use Rattle.radio_model.specs.declared.sending.Sending.{Sending}
use Rattle.radio_model.specs.Hearing.{frame_of_sending, counter_of_sending}
use Rattle.scenario_text.specs.ScenarioParts.{ScenarioParts}
use Rattle.air_log.specs.declared.entry.Entry.{Entry}
use Rattle.air_log.specs.Safe.{sender_hosts}
use Rattle.air_log.specs.Entries.{sendings_of}
use Rattle.law_safety.specs.Endings.{EndsInOrder}
use Rattle.bus_time.specs.Stamps.{begins_data, IsOfFrame}
use Rattle.bus_time.specs.StampLaws.{BeginsData}
use Rattle.bus_time.specs.Reading.{ahead_in, beginning_of}
use Rattle.bus_time.specs.Words.{Note, AreFirsts, IsFirstWord}
use Rattle.bus_time.specs.declared.words.Round.{Round}
use Rattle.bus_time.specs.declared.words.Word.{Word}
use Rattle.bus_time.specs.declared.words.Words.{Words}
use Rattle.bus_time.specs.declared.beginning.Beginning.{Beginning}
use Rattle.bus_time.proofs.DataHosts.{word}
use Rattle.bus_time.proofs.FoundWords.{own_round, some_ahead}
use Rattle.bus_time.proofs.HeardWords.{over_before}

-- data that begins a flood
pub begun_data : (air : List Entry) (x : Sending) → Contains (sendings_of air) x → begins_data x ≡ true → BeginsData air x
begun_data air x there begins =
    let parts = and_parts (counter_of_sending x == 0) (is_data x.packet) begins in
    record { there = there; first = eqb-true (counter_of_sending x) 0 parts.0; data_ = data_in x.packet; says = cond-true (is_data x.packet) _ _ parts.1 }

module _ (s : ScenarioParts) (clocks : ℕ → ℕ → ℕ) (air : List Entry) (whole : EndsInOrder s clocks air) (x : Sending) (begun : BeginsData air x)
    (guest : sender_hosts s clocks air x ≡ false) where
  -- a word on a later frame, unless there is one on the frame itself
  pub given_ahead : ((k : Sending) → IsOfFrame s air x k → ⊥) → IsFirstWord (filter_map (ahead_in s.profile) air) (own_round s air x) None → ⊥
  given_ahead none nothing =
      let told = word s clocks air whole x begun guest in
      let heard = told.1 in
      let h = heard.heard in
      let y : Schedule = record { plan = told.0; gap = heard.gap } in
      elim (cases_lt 0 heard.gap) [
        | inl some ↦ some_ahead s air x heard.gap h (record {
          heard = record { there = heard.schedule.there; channel = heard.schedule.channel; schedule = y; says = heard.schedule.says; gap_is = refl };
          some = some;
          frame = heard.due;
        }) nothing
        | inr now ↦ (
            let due = heard.due in
            none h (record {
              gap = heard.gap;
              heard = record { there = heard.schedule.there; channel = heard.schedule.channel; schedule = y; says = heard.schedule.says; gap_is = refl };
              frame = omega (arith, now, due);
              over = over_before s clocks air whole x.node h x y begun.data_ heard.schedule.there begun.there heard.schedule.channel heard.schedule.says
                  begun.says heard.due;
            })
            )
      ]

-- what was found of the round of b, which is that of x
pub found : (s : ScenarioParts) (air : List Entry) (x : Sending) (b : Beginning) → b ≡ beginning_of s.profile x → (words : Words) (notes : List Note)
    → AreFirsts notes words → (node rank : ℕ) → node ≡ b.node → rank ≡ b.rank → (o : Option Word)
    → ((ns : List Note) → AreFirsts ns words → IsFirstWord ns (record { node = node; rank = rank; frame = b.frame }) o)
    → IsFirstWord notes (own_round s air x) o
found s air x b is words notes are node rank same_node same_rank o at =
    let of_node : node ≡ x.node = same_node ∙ ap (λ (c : Beginning). c.node) is in
    let of_rank : rank ≡ x.rank = same_rank ∙ ap (λ (c : Beginning). c.rank) is in
    let of_frame : b.frame ≡ frame_of_sending s.profile x = ap (λ (c : Beginning). c.frame) is in
    let round : ◌≡◌ {A = Round} (record { node = node; rank = rank; frame = b.frame }) (own_round s air x) =
    ap {A = ℕ} {B = Round} (λ (n : ℕ). record { node = n; rank = rank; frame = b.frame }) of_node
    ∙ ap {A = ℕ} {B = Round} (λ (r : ℕ). record { node = x.node; rank = r; frame = b.frame }) of_rank
    ∙ ap {A = ℕ} {B = Round} (λ (f : ℕ). record { node = x.node; rank = x.rank; frame = f }) of_frame in
    subst (λ (r : Round). IsFirstWord notes r o) round (at notes are)

-- what was found is late, or nothing was
pub late_word : (o : Option Word) (start : ℕ) → ((first : Word) × (o ≡ Some first) × (start ≤ first.end)) ⊎ (o ≡ None) → (w : Word) → o ≡ Some w
    → start ≤ w.end
late_word o start (inl late) w is =
    let same : late.0 ≡ w = some_same late.0 w (sym late.1 ∙ is) in
    let end = ap (λ (u : Word). u.end) same in
    let by = late.2 in
    omega (arith, end, by)
  where
    some_same : (u v : Word) → ◌≡◌ {A = Option Word} (Some u) (Some v) → u ≡ v
    some_same u v same = cc
late_word o start (inr none) w is = absurd (nothing w (sym none ∙ is))
  where
    nothing : (v : Word) → ◌≡◌ {A = Option Word} None (Some v) → ⊥
    nothing v same = cc
