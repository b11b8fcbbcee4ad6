-- What the end of the own transmission leaves of a device whose window waits for it.
use Rattle.std.proofs.Common.{◌≡◌, ℕ, ◌+◌, ◌<◌, inl, inr, List, [], ◌∷◌, Bool, true, false, ◌==◌, nat_lt, Some, None, fold, refl, sym, ◌∙◌, subst, arith}
use Rattle.std.proofs.Common.{eqb-true}
use Rattle.std.proofs.lemmas.Bool.{cond_both, cases_lt, eqb-false, lt-ltb, le-ltb}
use Rattle.lwb_base.specs.declared.event.Event.TheVariants.{Sent}
use Rattle.lwb_base.specs.declared.order.Order.{Order}
use Rattle.lwb_base.specs.declared.order.Order.TheVariants.{Off}
use Rattle.radio_model.specs.declared.sending.Sending.{Sending}
use Rattle.scenario_text.specs.ScenarioParts.{ScenarioParts}
use Rattle.node_core.specs.Windows.{Window}
use Rattle.node_core.specs.Nodes.{Node}
use Rattle.node_core.specs.Rows.{sends}
use Rattle.air_log.specs.Devices.{Device, PowerOn, listens_to}
use Rattle.scenario_text.specs.Setups.{setup_of}
use Rattle.law_trails.specs.Obeying.{channel_if_on, channel_by, alarm_by, ordered_by}
use Rattle.law_trails.specs.Walks.{device_after_row}
use Rattle.law_trails.proofs.RowsOfDevices.{row_obeyed}
use Rattle.law_trails.proofs.ObeyedOrders.{channel_is}
use Rattle.law_safety.specs.SetAlarms.{rank_at}
use Rattle.law_safety.specs.TunedNodes.{Either}
use Rattle.law_safety.proofs.TunedRadios.{listens_is, off_is}

-- what the end of the transmission leaves of the device
pub record HasEnded (n : Node) (j : ℕ) (w : Window) (d e : Device) : Type 0 where
  pub power : e.power ≡ PowerOn (sends n j w).node
  pub ordered : e.ordered ≡ d.ordered
  pub sending : e.sending ≡ None
  pub sent : e.made.sent ≡ d.made.sent
  pub alarm : e.alarm ≡ d.alarm
  pub radio : listens_to (rank_at n) d.listening ≡ true →
      Either (nat_lt (w.flood.sent + 1) w.flood.limit) (listens_to (rank_at n) e.listening ≡ true) (e.listening ≡ None)

pub has_ended : (s : ScenarioParts) (v : ℕ) (clock : ℕ → ℕ) (t : ℕ) (x : Sending) (n : Node) (j : ℕ) (w : Window) (d : Device)
    → w.flood.sent < w.flood.limit
    → HasEnded n j w d (device_after_row clock (setup_of s v) t Sent (Some x) (record d { sending = None }) n (sends n j w))
has_ended s v clock t x n j w d below =
    let b = row_obeyed clock (setup_of s v) t Sent (Some x) (record d { sending = None }) n (sends n j w) in
    let e = device_after_row clock (setup_of s v) t Sent (Some x) (record d { sending = None }) n (sends n j w) in
    let k = w.flood.sent + 1 in
    record {
      power = b.power;
      ordered = b.ordered ∙ cond_both (k == w.flood.limit) (Off ∷ []) []
          (λ (os : List Order). fold (ordered_by clock t) d.ordered os ≡ d.ordered) (λ is. refl) (λ is. refl);
      sending = b.sending;
      sent = b.sent;
      alarm = b.alarm ∙ cond_both (k == w.flood.limit) (Off ∷ []) []
          (λ (os : List Order). fold (alarm_by clock t) d.alarm os ≡ d.alarm) (λ is. refl) (λ is. refl);
      radio = λ on. cond_both (k == w.flood.limit) (Off ∷ []) []
          (λ (os : List Order). channel_if_on e.listening ≡ fold channel_by (channel_if_on d.listening) os →
          Either (nat_lt k w.flood.limit) (listens_to (rank_at n) e.listening ≡ true) (e.listening ≡ None))
          (λ last off. subst (λ (c : Bool). Either c (listens_to (rank_at n) e.listening ≡ true) (e.listening ≡ None))
          (sym (at_limit last)) (off_is e.listening off))
          (λ more on_still. subst (λ (c : Bool). Either c (listens_to (rank_at n) e.listening ≡ true) (e.listening ≡ None))
          (sym (below_limit more)) (listens_is (rank_at n) e.listening (on_still ∙ channel_is (rank_at n) d.listening on)))
          b.channel;
    }
  where
    at_limit : ((w.flood.sent + 1) == w.flood.limit) ≡ true → nat_lt (w.flood.sent + 1) w.flood.limit ≡ false
    at_limit last = le-ltb (w.flood.sent + 1) w.flood.limit (let is = eqb-true (w.flood.sent + 1) w.flood.limit last in omega (arith, is))

    below_limit : ((w.flood.sent + 1) == w.flood.limit) ≡ false → nat_lt (w.flood.sent + 1) w.flood.limit ≡ true
    below_limit more = lt-ltb (w.flood.sent + 1) w.flood.limit (elim (cases_lt (w.flood.sent + 1) w.flood.limit) [
      | inl less ↦ less
      | inr at ↦ absurd (eqb-false (w.flood.sent + 1) w.flood.limit more (omega (arith, at, below)))
    ])
