-- Each window opens and closes by a row of the node table.
use Rattle.std.proofs.Common.{◌≡◌, ℕ, List, [], Bool, true, false, Option, Contains, refl, sym, ◌∙◌, ap, subst, IfSome}
use Rattle.std.proofs.lemmas.List.Elements.{Contains-append_left}
use Rattle.bus_rules.specs.Slots.{part_of, opened_slot}
use Rattle.node_core.specs.Windows.{Window}
use Rattle.node_core.specs.Nodes.{Node}
use Rattle.node_core.specs.Rows.{window_closes}
use Rattle.scenario_text.specs.ScenarioParts.{ScenarioParts}
use Rattle.air_log.specs.declared.entry.Entry.{Entry}
use Rattle.air_log.specs.WindowLogs.{WindowLog, Happening, HeardAt, Closing}
use Rattle.scenario_text.specs.Setups.{setup_of}
use Rattle.lwb_base.proofs.Elements.{contains_head}
use Rattle.law_safety.proofs.OpeningRoles.{same_standing, role_of}
use Rattle.law_windows.specs.WindowRows.{node_in_window, OpensBy, IsOpened, ClosesAs}
use Rattle.law_windows.specs.OpenWindows.{IsOpenWindow}
use Rattle.law_windows.specs.WindowSteps.{KeepsWindows}

module _ (s : ScenarioParts) (clocks : ℕ → ℕ → ℕ) (v : ℕ) where
  -- it opened by a row, and if it has closed, it closed by one
  pub record IsOfRows (w : WindowLog) : Type 0 where
    pub opens : IsOpened s clocks v w
    pub closes : IfSome w.closed (ClosesAs s clocks v w)

  module _ (w : WindowLog) (happenings : List Happening) (last : Window) (closed : Option Closing)
      (grown : (e : Happening) → Contains w.happenings e → Contains happenings e) where
    abbrev later : WindowLog
    later = record w { happenings = happenings; last = last; closed = closed }

    opened_by : (b : Bool) → OpensBy s clocks v b w → OpensBy s clocks v b later
    opened_by true is = record { awaited = is.awaited; after = is.after }
    opened_by false is = record {
      scanned = is.scanned;
      packet = is.packet;
      schedule = is.schedule;
      says = is.says;
      of_rank = is.of_rank;
      in_slot = is.in_slot;
      happened = grown (HeardAt w.opened is.packet) is.happened;
      after = is.after;
    }

    pub opened_still : IsOpened s clocks v w → IsOpened s clocks v later
    opened_still is = record {
      frame_before = is.frame_before;
      frame_after = is.frame_after;
      rank_before = is.rank_before;
      rank_after = is.rank_after;
      by = opened_by w.by_alarm is.by;
    }

  -- a window that is open has not closed
  pub not_closed : (Q : Closing → Type 0) (n : Node) (j : ℕ) (w : Window) (x : WindowLog) → IsOpenWindow n j w x → IfSome x.closed Q
  not_closed Q n j w x is = subst (λ (c : Option Closing). IfSome c Q) (sym is.open_) tt

  -- the row of the closing, by the names of the window
  closes_as : (n : Node) (j : ℕ) (w : Window) (x : WindowLog) → IsOpenWindow n j w x
      → (window_closes (setup_of s v) n j w).node ≡ (window_closes (setup_of s v) (node_in_window x) x.slot x.last).node
  closes_as n j w x is =
      let S = setup_of s v in
      ap (λ (m : Node). (window_closes S m j w).node) is.node
      ∙ ap (λ (i : ℕ). (window_closes S (node_in_window x) i w).node) (sym is.slot)
      ∙ ap (λ (u : Window). (window_closes S (node_in_window x) x.slot u).node) (sym is.last)

  pub rows_steps : (air : List Entry) (t : ℕ) → KeepsWindows s clocks air v (λ now taken w. IsOfRows w) t
  rows_steps air t = record {
    begun = λ d n j fine due on stage.
        (let S = setup_of s v in
        record {
          opens = record {
            frame_before = refl;
            frame_after = refl;
            rank_before = refl;
            rank_after = (same_standing S n.frame n.core j (opened_slot S n.frame (part_of n.core.plan j) n.core) (role_of S n.frame n.core j)).rank;
            by = record { awaited = stage; after = refl };
          };
          closes = tt;
        });
    joined = λ d h n y fine next now on stage says rank. record {
      opens = record {
        frame_before = refl;
        frame_after = refl;
        rank_before = refl;
        rank_after = refl;
        by = record {
          scanned = stage;
          packet = h.packet;
          schedule = y;
          says = says;
          of_rank = rank;
          in_slot = refl;
          happened = contains_head (HeardAt t h.packet) [];
          after = refl;
        };
      };
      closes = tt;
    };
    heard = λ d h n j w x fine next now on stage is in_it known. record {
      opens = opened_still x _ _ x.closed (λ e there. Contains-append_left _ _ e there) known.opens;
      closes = not_closed _ n j w x is;
    };
    taken = λ d fine is before now x there. now.each x there;
    passed = λ x known. known;
    sent = λ d y n j w x fine enters own ends on stage waiting is in_it known. record {
      opens = opened_still x _ _ x.closed (λ e there. Contains-append_left _ _ e there) known.opens;
      closes = not_closed _ n j w x is;
    };
    closed = λ d n j w x fine due on stage is known. record {
      opens = opened_still x x.happenings x.last _ (λ e there. there) known.opens;
      closes = closes_as n j w x is;
    };
  }

-- as what is known of windows in each tick
abbrev pub Rows : ScenarioParts → (ℕ → ℕ → ℕ) → ℕ → ℕ → ℕ → WindowLog → Type 0
Rows s clocks v now taken w = IsOfRows s clocks v w
