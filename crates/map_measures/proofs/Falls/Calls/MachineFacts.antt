-- The machines within a call know what is needed for their numbers.
use Rattle.std.proofs.Common.{◌≡◌, ℕ, suc, Bool, inl, inr, ap, ◌∙◌, arith}
use Rattle.seize_words.specs.declared.at.At.{At}
use Rattle.seize_words.specs.declared.at.At.TheVariants.{Root, Used, Slot, Entry, Word}
use Rattle.seize.specs.World.{World}
use Rattle.map_tables.specs.declared.node.Node.{Node}
use Rattle.map_tables.specs.declared.resize_mode.ResizeMode.{ResizeMode}
use Rattle.map_tables.specs.declared.setting.Setting.{Setting}
use Rattle.map_tables.specs.declared.status.TheConstants.Status.{PENDING}
use Rattle.map_tables.specs.declared.table.Table.{Table}
use Rattle.map_tables.specs.declared.table_words.TheConstants.{NEXT}
use Rattle.map_machines.specs.declared.copier.Copier.{Copier}
use Rattle.map_machines.specs.declared.copier.Copying.{Copying}
use Rattle.map_machines.specs.declared.copier.Copying.TheVariants as copies
use Rattle.map_machines.specs.declared.dispose.Dispose.{Dispose}
use Rattle.map_machines.specs.declared.dispose.Disposing.{Disposing}
use Rattle.map_machines.specs.declared.dispose.Disposing.TheVariants as disposes
use Rattle.map_machines.specs.declared.lookup.Looking.{Looking}
use Rattle.map_machines.specs.declared.lookup.Looking.TheVariants as looks
use Rattle.map_machines.specs.declared.new_table.NewTable.{NewTable}
use Rattle.map_machines.specs.declared.new_table.Making.{Making}
use Rattle.map_machines.specs.declared.new_table.Making.TheVariants as makes
use Rattle.many_calls.specs.Given.RuleChart.{Chart}
use Rattle.many_calls.specs.Given.RuleWords.{Blocks}
use Rattle.many_calls.specs.Given.PointsFactsCopies.{CopyingFacts}
use Rattle.many_calls.specs.Given.PointsFactsCopiesBlocking.{CopyingFactsBlocking}
use Rattle.many_calls.specs.Given.PointsFactsDisposes.{DisposingFacts, DisposeFacts}
use Rattle.many_calls.specs.Given.PointsFactsLooks.{LookingFacts}
use Rattle.many_calls.specs.Given.PointsFactsTables.{StandsAs, IsLinkOf, MakingFacts, NewTableFacts}
use Rattle.map_measures.proofs.Falls.Stands.{IsBehind, IsPlaceOf, MakingStands, NewTableStands, LookingStands, DisposingStands, DisposeStands, CopyingStands, CopyingStandsBlocking}

-- a table that stands behind another one has its turn
pub stands_behind : {K : Type 0} (setting : Setting) (c : Chart K) (link : At) (turn u : ℕ) → IsBehind link → StandsAs setting c link turn u → u ≡ turn
stands_behind setting c (Root r) turn u behind stands = absurd behind
stands_behind setting c (Used r) turn u behind stands = absurd behind
stands_behind setting c (Slot slot field) turn u behind stands = absurd behind
stands_behind setting c (Entry b field) turn u behind stands = absurd behind
stands_behind setting c (Word b field) turn u behind stands = stands

module _ {K V : Type 0} (w : World (Node K V)) (caller : ℕ) (setting : Setting) (c : Chart K) (blocks : Blocks) where
  -- the making of a table
  place_of : (link : At) (turn : ℕ) → IsLinkOf setting c blocks link turn → IsPlaceOf setting w.memory c blocks link turn
  place_of link turn (inl h) = inl h
  place_of link turn (inr h) = inr (h.0, h.1, h.2, h.3, h.4)

  making_stands : (link : At) (turn : ℕ) (stands : Making) → MakingFacts w caller setting c blocks link turn stands → MakingStands setting w.memory c blocks link turn stands
  making_stands link turn (makes.Sums before reason sum) f = tt
  making_stands link turn (makes.Makes table) f = tt
  making_stands link turn (makes.Promotes table) f = (f.0.block, f.0.link, PENDING, f.0.status_is)
  making_stands link turn (makes.Links table) f = (let is = f.0.link in let some = f.0.number.0 in omega (arith, is, some), f.1.turn_is)
  making_stands link turn (makes.Drops table found) f = (f.6.turn_is, f.1, f.3, f.4, f.5, λ behind. stands_behind setting c link turn f.1 behind f.2)
  making_stands link turn (makes.Over table) f = (f.0, f.2, λ behind. stands_behind setting c link turn f.0 behind f.1)
  making_stands link turn (makes.Refused fault) f = tt

  pub new_table_stands : (link : At) (turn : ℕ) (n : NewTable) → NewTableFacts w caller setting c blocks link turn n → NewTableStands setting w.memory c blocks link turn n
  new_table_stands link turn n f = record { link_is = f.link_is; place = place_of link turn f.link_of; point = making_stands link turn n.stands f.point }

  -- a disposal
  disposing_stands : (n t : ℕ) (stands : Disposing) → DisposingFacts w caller setting c blocks n t stands → DisposingStands setting w.memory c blocks t stands
  disposing_stands n t (disposes.Settles settle) f = tt
  disposing_stands n t disposes.Reads f = tt
  disposing_stands n t (disposes.Walks link) f = (f.3, f.4, f.5, f.6)
  disposing_stands n t (disposes.Defers defer) f = tt
  disposing_stands n t disposes.Over f = tt

  pub dispose_stands : (d : Dispose) → DisposeFacts w caller setting c blocks d → DisposeStands setting w.memory c blocks d
  dispose_stands d f = (f.t, f.table, disposing_stands f.n f.t d.stands f.point)

  module _ (same : K → K → Bool) (hash : K → ℕ) where
    -- a lookup
    pub looking_stands : (mode : ResizeMode) (root : ℕ) (keys : K → Bool) (code : ℕ) (stands : Looking) → LookingFacts same hash mode root keys code c blocks stands
        → LookingStands setting w.memory c blocks code stands
    looking_stands mode root keys code looks.Roots f = tt
    looking_stands mode root keys code (looks.Probes trial) f = (f.0, f.1, f.2)
    looking_stands mode root keys code (looks.Nexts table) f = (f.1, f.2)
    looking_stands mode root keys code (looks.Over found) f = absurd f

    -- a copier in incremental mode
    pub copying_stands : (p : Copier) (stands : Copying) → CopyingFacts same hash w caller setting c blocks p stands → CopyingStands setting w.memory c blocks p stands
    copying_stands p copies.Begins f = tt
    copying_stands p copies.Follows f = tt
    copying_stands p copies.Asks f = f.5
    copying_stands p copies.Sees f = tt
    copying_stands p copies.Claims f = tt
    copying_stands p copies.Marks f = (f.0, f.1.0, f.4.0)
    copying_stands p (copies.Probes word code table probe) f = (f.2, f.3, f.7)
    copying_stands p (copies.Puts word code table probe) f = (f.2, f.3, f.7)
    copying_stands p (copies.Covers word) f = (c.first, f.2.copies.0, f.2.in_range.0)
    copying_stands p (copies.Passes word code table) f = (f.2, f.6)
    copying_stands p (copies.Grows word code making) f = (f.2, f.7, f.8, new_table_stands (Word (blocks.table f.2) NEXT) (suc f.2) making f.9)
    copying_stands p copies.Aborts f = absurd f
    copying_stands p copies.Replaces f = absurd f
    copying_stands p (copies.Remakes making) f = absurd f
    copying_stands p copies.Counts f = tt
    copying_stands p (copies.Tallies word fault) f = tt
    copying_stands p (copies.Unmarks word fault) f = (c.first, f.0.2.copies.0, f.0.2.in_range.0)
    copying_stands p (copies.Unclaims fault) f = (suc f.0, f.1.1)
    copying_stands p copies.Promotes f = (suc f.0, f.1.1)
    copying_stands p copies.Announces f = (suc f.0.0, f.0.3)
    copying_stands p (copies.Succeeds link) f = (f.0.0, suc f.0.0, omega arith, f.0.3, f.0.2.known, f.3 ∙ ap (λ (x : Table). x.link) f.0.2.is)
    copying_stands p (copies.Retires settle rest) f = tt
    copying_stands p copies.Over f = tt
    copying_stands p (copies.Refused fault) f = tt

    -- and in blocking mode
    pub copying_stands_blocking : (p : Copier) (stands : Copying) → CopyingFactsBlocking same hash w caller setting c blocks p stands → CopyingStandsBlocking setting w.memory c blocks p stands
    copying_stands_blocking p copies.Asks f = (f.0, f.1.0.2)
    copying_stands_blocking p copies.Sees f = (f.0, f.1.0.2)
    copying_stands_blocking p copies.Claims f = ((f.0, f.1.0.2), c.first, f.1.0.0)
    copying_stands_blocking p copies.Marks f = ((f.0, f.1.2), (c.first, f.1.0, let l = f.4 in let most = f.5 in omega (arith, l, most)))
    copying_stands_blocking p (copies.Probes word code table probe) f = ((f.0, f.4.copies.2), (f.0, f.3, f.7))
    copying_stands_blocking p (copies.Puts word code table probe) f = ((f.0, f.4.copies.2), (f.0, f.3, f.7))
    copying_stands_blocking p copies.Counts f = (f.0, f.1.2)
    copying_stands_blocking p copies.Aborts f = (f.0, f.1.0.0.2)
    copying_stands_blocking p copies.Replaces f = (f.0, f.1.0.2)
    copying_stands_blocking p (copies.Remakes making) f = (f.0, f.1.0.2, new_table_stands (Word (blocks.table f.0) NEXT) (suc f.0) making f.3)
    copying_stands_blocking p copies.Promotes f = (f.0, f.1.0.2)
    copying_stands_blocking p copies.Announces f = (c.first, f.2.1)
    copying_stands_blocking p (copies.Succeeds link) f = (f.0, c.first, f.1.0, f.1.1, (f.1.3 f.0 (omega arith) f.1.0).0, f.2)
    copying_stands_blocking p (copies.Retires settle rest) f = tt
    copying_stands_blocking p copies.Over f = tt
    copying_stands_blocking p (copies.Refused fault) f = tt
    copying_stands_blocking p copies.Begins f = absurd f
    copying_stands_blocking p copies.Follows f = absurd f
    copying_stands_blocking p (copies.Covers word) f = absurd f
    copying_stands_blocking p (copies.Passes word code table) f = absurd f
    copying_stands_blocking p (copies.Grows word code making) f = absurd f
    copying_stands_blocking p (copies.Tallies word fault) f = absurd f
    copying_stands_blocking p (copies.Unmarks word fault) f = absurd f
    copying_stands_blocking p (copies.Unclaims fault) f = absurd f
