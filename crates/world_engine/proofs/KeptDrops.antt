-- What the lines given so far lose, with a line more and with receptions more.
use Rattle.std.proofs.Common.{◌≡◌, ℕ, ◌≤◌, List, [], ◌∷◌, ◌++◌, option_to_list, fold, Contains, ◌⊎◌, inl, inr, refl, sym, ◌∙◌, ap, subst, arith, append-nil}
use Rattle.std.proofs.Common.{append_assoc}
use Rattle.scenario_text.specs.ScenarioParts.{ScenarioParts}
use Rattle.scenario_text.specs.declared.script.ScriptLine.{ScriptLine}
use Rattle.bus_rules.specs.declared.delivery.DropLine.{DropLine}
use Rattle.air_log.specs.declared.entry.Entry.{Entry}
use Rattle.air_log.specs.Devices.{Device}
use Rattle.air_log.specs.ScriptedDevices.{device_after_line}
use Rattle.scenario_text.specs.Setups.{setup_of}
use Rattle.air_log.specs.Trails.{Reception, frame_start, before_tick}
use Rattle.air_log.specs.Lawful.{heard_by}
use Rattle.air_log.specs.Drops.{told_at_tick, device_before_line, drop_by}
use Rattle.lwb_base.proofs.Elements.{contains_head, contains_tail}
use Rattle.air_log.proofs.HearingMore.{earlier_stays}
use Rattle.air_log.proofs.DropsBelow.{trail_drops_below}
use Rattle.world_engine.specs.Moments.{trail_after_lines}

-- what a line loses at a node that it finds so
abbrev pub lost_by : ScriptLine → Device → List DropLine
lost_by l d = option_to_list (drop_by l l.act d.power)

-- v received nothing more, or one reception that ended at t
abbrev pub HeardOn : ℕ → List Entry → List Entry → ℕ → Type 0
HeardOn t old new v = (heard_by new v ≡ heard_by old v) ⊎ ((h : Reception) × (h.end ≡ t) × (heard_by new v ≡ heard_by old v ++ h ∷ []))

module _ (s : ScenarioParts) (clocks : ℕ → ℕ → ℕ) where
  -- a line more
  pub drops_more : (air : List Entry) (above ls : List ScriptLine) (l : ScriptLine)
      → trail_drops_below s clocks air above (ls ++ l ∷ []) ≡ trail_drops_below s clocks air above ls
      ++ lost_by l (device_before_line s clocks air (above ++ ls) l)
  drops_more air above [] l =
      append-nil (lost_by l (device_before_line s clocks air above l))
      ∙ ap (λ (xs : List ScriptLine). lost_by l (device_before_line s clocks air xs l)) (sym (append-nil above))
  drops_more air above (x ∷ ls) l =
      let first = lost_by x (device_before_line s clocks air above x) in
      let rest = trail_drops_below s clocks air (above ++ x ∷ []) ls in
      ap (λ (ds : List DropLine). first ++ ds) (drops_more air (above ++ x ∷ []) ls l)
      ∙ sym (append_assoc first rest (lost_by l (device_before_line s clocks air ((above ++ x ∷ []) ++ ls) l)))
      ∙ ap (λ (xs : List ScriptLine). (first ++ rest) ++ lost_by l (device_before_line s clocks air xs l)) (append_assoc above (x ∷ []) ls)

  -- where its frame starts at t
  pub line_finds : (air : List Entry) (told : List ScriptLine) (l : ScriptLine) (t : ℕ) → frame_start s l.frame ≡ t
      → device_before_line s clocks air told l ≡ trail_after_lines s l.node (clocks l.node) (heard_by air l.node) t told
  line_finds air told l t now =
      subst (λ (u : ℕ). device_before_line s clocks air told l ≡ trail_after_lines s l.node (clocks l.node) (heard_by air l.node) u told) now refl

  same_before : (t : ℕ) (old new : List Entry) (v u : ℕ) → u ≤ t → HeardOn t old new v
      → before_tick s v (clocks v) (heard_by new v) u ≡ before_tick s v (clocks v) (heard_by old v) u
  same_before t old new v u early (inl same) = ap (λ (hs : List Reception). before_tick s v (clocks v) hs u) same
  same_before t old new v u early (inr (h, now, more)) =
      ap (λ (hs : List Reception). before_tick s v (clocks v) hs u) more ∙ earlier_stays s v (clocks v) (heard_by old v) h u (omega (arith, early, now))

  same_line : (t : ℕ) (old new : List Entry) (above : List ScriptLine) (l : ScriptLine) → frame_start s l.frame ≤ t → HeardOn t old new l.node
      → device_before_line s clocks new above l ≡ device_before_line s clocks old above l
  same_line t old new above l early heard =
      ap (λ (d : Device). fold (device_after_line (clocks l.node) (setup_of s l.node) (frame_start s l.frame)) d (told_at_tick s above l))
      (same_before t old new l.node (frame_start s l.frame) early heard)

  -- receptions more
  pub drops_stay : (t : ℕ) (old new : List Entry) (above ls : List ScriptLine) → ((l : ScriptLine) → Contains ls l → frame_start s l.frame ≤ t)
      → ((v : ℕ) → HeardOn t old new v)
      → trail_drops_below s clocks new above ls ≡ trail_drops_below s clocks old above ls
  drops_stay t old new above [] early heard = refl
  drops_stay t old new above (l ∷ ls) early heard =
      let same = same_line t old new above l (early l (contains_head l ls)) (heard l.node) in
      ap (λ (d : Device). lost_by l d ++ trail_drops_below s clocks new (above ++ l ∷ []) ls) same
      ∙ ap (λ (ds : List DropLine). lost_by l (device_before_line s clocks old above l) ++ ds)
      (drops_stay t old new (above ++ l ∷ []) ls (λ m there. early m (contains_tail l ls m there)) heard)
