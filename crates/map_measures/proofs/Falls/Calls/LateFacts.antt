-- So does a call in a table that the root has left, in blocking mode.
use Rattle.std.proofs.Common.{◌≡◌, ℕ, suc, ◌^◌, ◌<◌, Bool, false, inl, refl, ap, subst, sym, ◌∙◌, arith}
use Rattle.seize_words.specs.declared.at.At.TheVariants.{Root, Word}
use Rattle.seize.specs.World.{World}
use Rattle.map_tables.specs.Chunks.{is_incremental}
use Rattle.map_tables.specs.declared.node.Node.{Node}
use Rattle.map_tables.specs.declared.setting.Setting.{Setting}
use Rattle.map_tables.specs.declared.table_words.TheConstants.{NEXT}
use Rattle.many_calls.specs.Given.RawDeclared.machines.asking.Asking.{Asking}
use Rattle.many_calls.specs.Given.RawDeclared.machines.asking.Asking.TheVariants as asking
use Rattle.many_calls.specs.Given.RawDeclared.machines.call.KeyCall.{KeyCall}
use Rattle.many_calls.specs.Given.RawDeclared.machines.call.Calling.{Calling}
use Rattle.many_calls.specs.Given.RawDeclared.machines.call.Calling.TheVariants as at
use Rattle.map_machines.specs.declared.copier.Copier.{Copier}
use Rattle.map_machines.specs.declared.copier.Copying.{Copying}
use Rattle.map_machines.specs.declared.copier.Copying.TheVariants as copies
use Rattle.map_machines.specs.declared.lookup.Looking.{Looking}
use Rattle.map_machines.specs.declared.lookup.Looking.TheVariants as looks
use Rattle.map_machines.specs.declared.new_table.NewTable.{NewTable}
use Rattle.map_machines.specs.declared.new_table.Making.{Making}
use Rattle.map_machines.specs.declared.new_table.Making.TheVariants as makes
use Rattle.many_calls.specs.Given.RuleChart.{Chart}
use Rattle.many_calls.specs.Given.RuleWords.{Blocks}
use Rattle.many_calls.specs.Given.PointsFactsCalls.{Unchanged}
use Rattle.many_calls.specs.Given.LateLateCalls.{SupersededFirst, SupersededFirstFacts, SupersededAsking, SupersededCalling, SupersededCallFacts}
use Rattle.many_calls.specs.Given.LateLateCopies.{SupersededCopying}
use Rattle.many_calls.specs.Given.LateLateLooks.{SupersededLooking}
use Rattle.map_measures.proofs.Falls.Stands.{MakingStands, NewTableStands, LookingStands, CopyingStandsBlocking, AskingStands, CallingStands, CallStands}
use Rattle.map_measures.proofs.Falls.Calls.MachineFacts.{new_table_stands}
use Rattle.map_measures.proofs.Falls.Calls.Facts.{pair_inside}

module _ {K V : Type 0} (same : K → K → Bool) (hash : K → ℕ) (w : World (Node K V)) (caller : ℕ) (setting : Setting) (c : Chart K) (blocks : Blocks) (began : ℕ) where
  -- the making of the first table
  late_making : (stands : Making) → SupersededFirst w caller setting c blocks began stands → MakingStands setting w.memory c blocks (Root setting.root) 0 stands
  late_making (makes.Sums before reason sum) f = absurd f
  late_making (makes.Makes table) f = absurd f
  late_making (makes.Promotes table) f = absurd f
  late_making (makes.Links table) f = absurd f
  late_making (makes.Drops table found) f = (f.1.turn_is, f.2, f.4, f.5, f.6, λ behind. absurd behind)
  late_making (makes.Over table) f = (f.0, f.1, λ behind. absurd behind)
  late_making (makes.Refused fault) f = absurd f

  pub late_first : (n : NewTable) → SupersededFirstFacts w caller setting c blocks began n → NewTableStands setting w.memory c blocks (Root setting.root) 0 n
  late_first n f = record { link_is = f.link_is; place = inl (refl, refl); point = late_making n.stands f.point }

  -- a copier
  pub late_copying : (p : Copier) (stands : Copying) → SupersededCopying same hash w caller setting c blocks began p stands → CopyingStandsBlocking setting w.memory c blocks p stands
  late_copying p copies.Asks f = (f.1, f.2.target)
  late_copying p copies.Sees f = (f.1, f.2.target)
  late_copying p copies.Claims f = ((f.1, f.2.target), f.0, f.2.source)
  late_copying p copies.Marks f = ((f.1, f.2.0.target), (f.0, f.2.0.source, let l = f.3.0 in let most = f.3.1 in omega (arith, l, most)))
  late_copying p (copies.Probes word code table probe) f = ((f.1, f.5.copies.0.target), (f.1, f.4, f.8))
  late_copying p (copies.Puts word code table probe) f = ((f.1, f.5.copies.0.target), (f.1, f.4, f.8))
  late_copying p copies.Counts f = (f.1, f.2.0.target)
  late_copying p copies.Aborts f = (f.1, f.2.0.target)
  late_copying p copies.Replaces f = (f.1, f.2.0.target)
  late_copying p (copies.Remakes making) f = (f.1, f.2.0.target, new_table_stands w caller setting c blocks (Word (blocks.table f.1) NEXT) (suc f.1) making f.3)
  late_copying p copies.Promotes f = (f.1, f.2.target)
  late_copying p copies.Announces f = (f.1, f.3.1)
  late_copying p (copies.Succeeds link) f = (f.0, f.1, f.2.0, f.2.1, (f.2.4 f.0 (omega arith) f.2.0).0, f.3)
  late_copying p (copies.Retires settle rest) f = tt
  late_copying p copies.Over f = tt
  late_copying p (copies.Refused fault) f = absurd f
  late_copying p copies.Begins f = absurd f
  late_copying p copies.Follows f = absurd f
  late_copying p (copies.Covers word) f = absurd f
  late_copying p (copies.Passes word code table) f = absurd f
  late_copying p (copies.Grows word code making) f = absurd f
  late_copying p (copies.Tallies word fault) f = absurd f
  late_copying p (copies.Unmarks word fault) f = absurd f
  late_copying p (copies.Unclaims fault) f = absurd f

module _ {K V Q : Type 0} (same : K → K → Bool) (hash : K → ℕ) (asks : Q → K → Bool) (w : World (Node K V)) (caller : ℕ) (setting : Setting) (c : Chart K) (blocks : Blocks)
    (keys : K → Bool) (began : ℕ) where
  -- a lookup
  late_looking : (code : ℕ) (stands : Looking) → SupersededLooking same hash keys code c blocks began stands → LookingStands setting w.memory c blocks code stands
  late_looking code looks.Roots f = tt
  late_looking code (looks.Probes trial) f = (f.0, f.1, f.2)
  late_looking code (looks.Nexts table) f = absurd f
  late_looking code (looks.Over found) f = tt

  module _ (p : KeyCall K V Q) (blocking : is_incremental setting.mode ≡ false) (few : p.hash < 2 ^ 64) where
    late_asking : (asks_at : Asking) → SupersededAsking same hash asks w caller setting c blocks keys began p asks_at → AskingStands setting w.memory c blocks p asks_at
    late_asking (asking.Absent gap) f = tt
    late_asking (asking.Present word) f = tt
    late_asking (asking.Fills word) f = ((f.4.0, f.4.1, f.4.2), f.2, pair_inside same hash asks w caller setting c blocks keys Unchanged p few f.1 f.0)
    late_asking (asking.GivesUp word) f = (f.4.0, f.4.1, f.4.2)

    late_calling : (stands : Calling) → SupersededCalling same hash asks w caller setting c blocks keys began p stands → CallingStands setting w.memory c blocks p stands
    late_calling (at.Looks lookup) f =
        subst (λ (code : ℕ). LookingStands setting w.memory c blocks code lookup.stands) (sym f.6.hash_is) (late_looking p.hash lookup.stands f.6.point)
    late_calling at.Probes f = (f.1.0, f.1.1, f.1.2)
    late_calling (at.Tries word new) f = (f.1.0, f.1.1, f.1.2)
    late_calling at.Nexts f = (f.1, f.2)
    late_calling (at.Firsts making) f = late_first same hash w caller setting c blocks began making f.2
    late_calling (at.Allocs making) f = (f.1, f.2, new_table_stands w caller setting c blocks (Word (blocks.table f.1) NEXT) (suc f.1) making f.4)
    late_calling (at.Copies copier) f = (ap (λ (x : Setting). is_incremental x.mode) f.1.setting_is ∙ blocking, late_copying same hash w caller setting c blocks began copier copier.stands f.1.point)
    late_calling at.Makes f = absurd f
    late_calling at.Roots f = absurd f
    late_calling (at.Helps copier goal) f = absurd f
    late_calling (at.Counts removed) f = absurd f
    late_calling (at.Disposes dispose answer) f = absurd f
    late_calling (at.Asks asks_at) f = late_asking asks_at f
    late_calling (at.Drops end) f = absurd f
    late_calling (at.Over end) f = absurd f

  pub late_call_stands : (p : KeyCall K V Q) → SupersededCallFacts same hash asks w caller setting c blocks keys began p → CallStands setting w.memory c blocks p
  late_call_stands p f = record { setting_is = f.setting_is; point = late_calling p f.blocking f.code p.stands f.point }
