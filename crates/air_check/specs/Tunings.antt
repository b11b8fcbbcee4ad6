-- Until when a node is on a channel, by the tunings of a log in the order of node, channel and start.
use Rattle.std.specs.Prelude.{◌≡◌, ℕ, ◌-◌, ◌<◌, ◌≤◌, ◌⊎◌, List, Bool, ◌||◌, ◌&&◌, ◌==◌, nat_lt, nat_le, Option, Some, None}
use Rattle.std.specs.Prelude.{Contains, AllPairs, length, slice_index_or}
use Rattle.radio_model.specs.Hearing.{Scene, IsTuned}
use Rattle.radio_model.specs.OnAir.{Tuning}
use Rattle.air_check.specs.declared.tunings.Tuned.{Tuned}

-- by node, then channel, then start, e is no later than f
pub record IsNoLater (e f : Tuned) : Type 0 where
  pub node : e.node ≤ f.node
  pub rank : e.node ≡ f.node → e.rank ≤ f.rank
  pub start : e.node ≡ f.node → e.rank ≡ f.rank → e.start ≤ f.start

-- it is no later than one of v and the channel at t
abbrev pub begins_by : ℕ → ℕ → ℕ → Tuned → Bool
begins_by v channel t e = nat_lt e.node v || ((e.node == v) && (nat_lt e.rank channel || ((e.rank == channel) && nat_le e.start t)))

-- the tuning that it was made of
abbrev pub tuning_of_tuned : Tuned → Tuning
tuning_of_tuned e = record { rank = e.rank; node = e.node; start = e.start; end = e.until }

-- a tuning begins with e or before it, and ends when e does
pub record IsOf (ts : List Tuning) (e : Tuned) : Type 0 where
  pub tuning : Tuning
  pub there : Contains ts tuning
  pub node : tuning.node ≡ e.node
  pub rank : tuning.rank ≡ e.rank
  pub start : tuning.start ≤ e.start
  pub end : tuning.end ≡ e.until

-- t begins with an element of the list, and from it on those of its node and channel last until its end at least
pub record IsListedTuning (es : List Tuned) (t : Tuning) : Type 0 where
  pub place : ℕ
  pub below : place < length es
  pub node : (d : Tuned) → (slice_index_or es place d).node ≡ t.node
  pub rank : (d : Tuned) → (slice_index_or es place d).rank ≡ t.rank
  pub start : (d : Tuned) → (slice_index_or es place d).start ≡ t.start
  pub lasts : (k : ℕ) (d : Tuned) → place ≤ k → k < length es → (slice_index_or es k d).node ≡ t.node
      → (slice_index_or es k d).rank ≡ t.rank → t.end ≤ (slice_index_or es k d).until

-- the list holds these tunings
pub record AreTuned (ts : List Tuning) (es : List Tuned) : Type 0 where
  pub in_order : AllPairs IsNoLater es
  pub of_them : (e : Tuned) → Contains es e → IsOf ts e
  pub all : (t : Tuning) → Contains ts t → IsListedTuning es t

-- until then the node is on the channel of e, by e and what is before it
pub record IsUntilAfter (es : List Tuned) (e : Tuned) (until : ℕ) : Type 0 where
  pub own : e.until ≤ until
  pub lasts : (d : Tuned) → 0 < length es → (slice_index_or es (length es - 1) d).node ≡ e.node → (slice_index_or es (length es - 1) d).rank ≡ e.rank
      → (slice_index_or es (length es - 1) d).until ≤ until
  pub from : (until ≡ e.until) ⊎ ((0 < length es) × ((d : Tuned) → ((slice_index_or es (length es - 1) d).node ≡ e.node)
      × ((slice_index_or es (length es - 1) d).rank ≡ e.rank) × ((slice_index_or es (length es - 1) d).until ≡ until)))

-- v is on the channel at each tick from t until e, or isn't at t
abbrev pub IsUntil : Scene → ℕ → ℕ → ℕ → Option ℕ → Type 0
IsUntil a v channel t (Some e) = (t < e) × ((w : ℕ) → t ≤ w → w < e → IsTuned a v channel w)
IsUntil a v channel t None = IsTuned a v channel t → ⊥
