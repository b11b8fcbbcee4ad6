-- The rule of the air is that of a run which is a part of it.
use Rattle.std.proofs.Common.{ℕ, ◌+◌, ◌≤◌, ◌↔◌, inl, inr, sym, ◌∙◌, subst}
use Rattle.std.specs.Prelude.{Contains}
use Rattle.radio_model.specs.declared.sending.Sending.{Sending}
use Rattle.radio_model.specs.Hearing.{Scene, TunedThrough, Rival, IsRival, HearsInScene}
use Rattle.lwb_flood.specs.FloodRun.{Run, IsParticipant, traffic_of_run, HearsIn}
use Rattle.lwb_flood.specs.RunOnAir.{IsPart}

module _ (a : Scene) (r : Run) (part : IsPart a r) where
  to_rival : (v : ℕ) (x y : Sending) → Contains r.sendings x → Rival a v x y → IsRival (traffic_of_run r) v x y
  to_rival v x y sent z =
      let there = part.channel x y sent z.sent (z.channel ∙ (part.sent x sent).1) z.meets in
      record { sent = there; channel = z.channel; meets = z.meets; arrives = sym (part.passes_by v y there) ∙ z.arrives }

  from_rival : (v : ℕ) (x y : Sending) → Contains r.sendings x → IsRival (traffic_of_run r) v x y → Rival a v x y
  from_rival v x y sent z =
      record { sent = (part.sent y z.sent).0; channel = z.channel; meets = z.meets; arrives = part.passes_by v y z.sent ∙ z.arrives }

  pub rule_in_run : (v : ℕ) (x : Sending) → IsParticipant r v → Contains r.sendings x → HearsInScene a v x ↔ HearsIn r (TunedThrough a) v x
  rule_in_run v x here sent = (to, from)
    where
      to : HearsInScene a v x → HearsIn r (TunedThrough a) v x
      to h = record {
        sent = sent;
        tuned = h.tuned;
        silent = λ y there node meets. h.silent y (part.sent y there).0 node meets;
        arrives = sym (part.passes_by v x sent) ∙ h.arrives;
        first = λ y rival same. h.first y (from_rival v x y sent rival) same;
        close = λ y rival same. subst (λ (d : ℕ). y.start ≤ x.start + d) part.delta (h.close y (from_rival v x y sent rival) same);
        chosen = elim h.chosen [
          | inl alone ↦ inl (λ y rival. alone y (from_rival v x y sent rival))
          | inr c ↦ inr (record {
            winner = c.winner;
            rival = to_rival v x c.winner sent c.rival;
            same = c.same;
            named = sym (part.captured_by v x sent) ∙ c.named;
          })
        ];
      }

      from : HearsIn r (TunedThrough a) v x → HearsInScene a v x
      from h = record {
        sent = (part.sent x sent).0;
        tuned = h.tuned;
        silent = λ y there node meets. h.silent y (part.own x y sent there (subst (λ (w : ℕ). IsParticipant r w) (sym node) here) meets) node meets;
        arrives = part.passes_by v x sent ∙ h.arrives;
        first = λ y rival same. h.first y (to_rival v x y sent rival) same;
        close = λ y rival same. subst (λ (d : ℕ). y.start ≤ x.start + d) (sym part.delta) (h.close y (to_rival v x y sent rival) same);
        chosen = elim h.chosen [
          | inl alone ↦ inl (λ y rival. alone y (to_rival v x y sent rival))
          | inr c ↦ inr (record { winner = c.winner; rival = from_rival v x c.winner sent c.rival; same = c.same; named = part.captured_by v x sent ∙ c.named })
        ];
      }
