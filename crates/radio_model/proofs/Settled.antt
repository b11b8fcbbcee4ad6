-- Who receives a transmission is settled when it ends.
use Rattle.std.proofs.Common.{◌≡◌, Some, ℕ, ◌<◌, ◌≤◌, ◌+◌, ◌↔◌, inl, inr, sym, ◌∙◌, ap, subst}
use Rattle.lwb_base.specs.Profile.{Numbers}
use Rattle.link_trace.specs.Passes.{Lines, passes}
use Rattle.link_trace.specs.Passes.{captured}
use Rattle.radio_model.specs.OnAir.{Sending}
use Rattle.radio_model.specs.Hearing.{Scene, HearsInScene, Rival, Arrives, traffic_of_scene, frame_of_sending, slot_of_sending, counter_of_sending}
use Rattle.radio_model.specs.Holding.{Agree}
use Rattle.radio_model.proofs.Agreement.{agree_back}

arrives_on : (t : ℕ) (a b : Scene) (v : ℕ) (y : Sending) → Agree t a b → Arrives a v y → Arrives b v y
arrives_on t a b v y s is =
    ap (λ (l : Lines). passes l (frame_of_sending b.numbers y) (slot_of_sending y) (counter_of_sending y) y.node v) (sym s.lines)
    ∙ ap (λ (p : Numbers). passes a.lines (frame_of_sending p y) (slot_of_sending y) (counter_of_sending y) y.node v) (sym s.numbers) ∙ is

captures_on : (t : ℕ) (a b : Scene) (v : ℕ) (x : Sending) (u : ℕ) → Agree t a b → (traffic_of_scene a).names x v ≡ Some u
    → (traffic_of_scene b).names x v ≡ Some u
captures_on t a b v x u s is =
    ap (λ (l : Lines). captured l (frame_of_sending b.numbers x) (slot_of_sending x) (counter_of_sending x) v) (sym s.lines)
    ∙ ap (λ (p : Numbers). captured a.lines (frame_of_sending p x) (slot_of_sending x) (counter_of_sending x) v) (sym s.numbers) ∙ is

rival_on : (a b : Scene) (v : ℕ) (x y : Sending) → Agree x.end a b → Rival a v x y → Rival b v x y
rival_on a b v x y s r = record {
  sent = (s.sendings y r.meets.after).0 r.sent;
  channel = r.channel;
  meets = r.meets;
  arrives = arrives_on x.end a b v y s r.arrives;
}

hears_on : (a b : Scene) (v : ℕ) (x : Sending) → x.start < x.end → Agree x.end a b → HearsInScene a v x → HearsInScene b v x
hears_on a b v x lasts s h =
    let back = agree_back x.end a b s in
    record {
      sent = (s.sendings x lasts).0 h.sent;
      tuned = λ k from until. (s.tuned v x.rank k until).0 (h.tuned k from until);
      silent = λ y sent own meets. h.silent y ((s.sendings y meets.after).1 sent) own meets;
      arrives = arrives_on x.end a b v x s h.arrives;
      first = λ y rival same. h.first y (rival_on b a v x y back rival) same;
      close = λ y rival same. subst (λ (p : Numbers). y.start ≤ x.start + p.delta) s.numbers (h.close y (rival_on b a v x y back rival) same);
      chosen = elim h.chosen [
        | inl alone ↦ inl (λ y rival. alone y (rival_on b a v x y back rival))
        | inr c ↦ inr (record {
          winner = c.winner;
          rival = rival_on a b v x c.winner s c.rival;
          same = c.same;
          named = captures_on x.end a b v x c.winner.node s c.named;
        })
      ];
    }

pub settled : (a b : Scene) (v : ℕ) (x : Sending) → x.start < x.end → Agree x.end a b → HearsInScene a v x ↔ HearsInScene b v x
settled a b v x lasts s = (hears_on a b v x lasts s, hears_on b a v x lasts (agree_back x.end a b s))
