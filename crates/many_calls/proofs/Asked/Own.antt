-- A call's own block, where it has yet to change the map: it is there, and nobody else has it.
use Rattle.std.specs.Prelude.{◌≡◌, ◌≢◌, ℕ, ◌/◌, ◌<◌, ◌^◌, Bool, Some, ◌⊎◌}
use Rattle.std.proofs.Common.{ap, ◌∙◌, inl, inr, arith}
use Rattle.seize_model.specs.Given.SeizeWordsMem.{value_at}
use Rattle.seize_model.specs.Given.SeizeWorld.{World, Making}
use Rattle.map_facts_late.specs.Given.TablesDeclared.node.Node.{Node}
use Rattle.map_facts_late.specs.Given.TablesDeclared.node.Node.TheVariants as node
use Rattle.map_facts_late.specs.Given.TablesDeclared.setting.Setting.{Setting}
use Rattle.map_facts_late.specs.Given.RawDeclared.machines.asking.Asking.TheVariants as asking
use Rattle.map_facts_late.specs.Given.RawDeclared.machines.call.KeyCall.{KeyCall}
use Rattle.map_facts_late.specs.Given.RawDeclared.machines.call.Calling.{Calling}
use Rattle.map_facts_late.specs.Given.RawDeclared.machines.call.Calling.TheVariants as at
use Rattle.map_facts_late.specs.Given.RuleChart.{Chart}
use Rattle.map_facts_late.specs.Given.RuleWords.{Blocks}
use Rattle.map_facts_late.specs.Given.PointsFactsCalls.{Change, Unchanged, IsOwnPair, IsVacant, HasIts, IsToFill, CallingFacts}
use Rattle.map_facts_late.proofs.Given.PointsCalls.Probes.{own_block}
use Rattle.map_facts_late.proofs.Values.Seeks.{HasNoneOr, its_or}
use Rattle.map_facts_late.specs.LateCalls.{SupersededCalling}
use Rattle.many_calls.proofs.Asked.Stays.{HasYet}

-- this block is the caller's own, if it is one
abbrev pub IsMine : {K V : Type 0} → World (Node K V) → ℕ → ℕ → Type 0
IsMine {K} {V} w caller own = (own ≡ 0) ⊎ ((x : Node K V) × (value_at w.memory (own / 2048) ≡ Some x) × (x ≢ node.Shards) × (w.hand (own / 2048) ≡ Making caller))

module _ {K V Q : Type 0} (same : K → K → Bool) (hash : K → ℕ) (asks : Q → K → Bool) (w : World (Node K V)) (caller : ℕ) (setting : Setting) (c : Chart K) (blocks : Blocks)
    (keys : K → Bool) (change : Change) (p : KeyCall K V Q) (few : p.hash < 2 ^ 64) where
  abbrev Mine : Type 0
  Mine = IsMine w caller p.own

  with_pair : IsOwnPair same hash asks w caller setting c blocks keys change p.own p.hash → Mine
  with_pair h =
      let b = own_block same hash asks caller setting keys w c blocks change p.own p.hash few h in
      inr (node.Pair h.key h.value, ap (value_at w.memory) b ∙ h.there, (λ e. cc e), ap w.hand b ∙ h.hand)

  with_none : HasNoneOr same hash asks w caller setting c blocks keys change p.own p.hash → Mine
  with_none (inl z) = inl z
  with_none (inr h) = with_pair h

  mine : HasIts same hash asks w caller setting c blocks keys change p → Mine
  mine h = with_none (its_or same hash asks w caller setting c blocks keys change p h)

  vacant_block : (h : IsVacant same hash asks w caller setting c blocks keys change p.own p.hash) → p.own / 2048 ≡ h.block
  vacant_block h = let is = h.word_is in let small = h.number in omega (arith, is, small.1, few)

  to_fill : IsToFill same hash asks w caller setting c blocks keys change p → Mine
  to_fill (inl its) = mine its
  to_fill (inr (asked, h, key)) =
      let b = vacant_block h in
      inr (node.Table 0 0 0, ap (value_at w.memory) b ∙ h.there, (λ e. cc e), ap w.hand b ∙ h.hand)

  pub mine_at : (stands : Calling) → HasYet stands → CallingFacts same hash asks w caller setting c blocks keys change p stands → Mine
  mine_at at.Makes yet f = inl f.0
  mine_at (at.Looks l) yet f = inl f.0
  mine_at at.Roots yet f = mine f
  mine_at at.Probes yet f = mine f.0
  mine_at (at.Tries word new) yet f = mine f.0
  mine_at (at.Counts removed) yet f = absurd yet
  mine_at at.Nexts yet f = mine f.0
  mine_at (at.Firsts making) yet f = mine f.0
  mine_at (at.Allocs making) yet f = mine f.0
  mine_at (at.Helps copier goal) yet f = mine f.0
  mine_at (at.Copies copier) yet f = mine f.0
  mine_at (at.Disposes d answer) yet f = absurd yet
  mine_at (at.Asks (asking.Absent gap)) yet f = mine f.0
  mine_at (at.Asks (asking.Present word)) yet f = mine f.0
  mine_at (at.Asks (asking.Fills word)) yet f = to_fill f.0
  mine_at (at.Asks (asking.GivesUp word)) yet f = mine f.0
  mine_at (at.Drops end) yet f = absurd yet
  mine_at (at.Over end) yet f = absurd yet

-- so it is in a table that the root has left
module _ {K V Q : Type 0} (same : K → K → Bool) (hash : K → ℕ) (asks : Q → K → Bool) (w : World (Node K V)) (caller : ℕ) (setting : Setting) (c : Chart K) (blocks : Blocks)
    (keys : K → Bool) (began : ℕ) (p : KeyCall K V Q) (few : p.hash < 2 ^ 64) where
  late_mine : HasIts same hash asks w caller setting c blocks keys Unchanged p → IsMine w caller p.own
  late_mine = mine same hash asks w caller setting c blocks keys Unchanged p few

  pub late_mine_at : (stands : Calling) → SupersededCalling same hash asks w caller setting c blocks keys began p stands → IsMine w caller p.own
  late_mine_at (at.Looks l) f = inl f.0
  late_mine_at at.Probes f = late_mine f.0
  late_mine_at (at.Tries word new) f = late_mine f.0
  late_mine_at at.Nexts f = late_mine f.0
  late_mine_at (at.Firsts making) f = late_mine f.0
  late_mine_at (at.Allocs making) f = late_mine f.0
  late_mine_at (at.Copies copier) f = late_mine f.0
  late_mine_at (at.Asks (asking.Absent gap)) f = late_mine f.0
  late_mine_at (at.Asks (asking.Present word)) f = late_mine f.0
  late_mine_at (at.Asks (asking.Fills word)) f = to_fill same hash asks w caller setting c blocks keys Unchanged p few f.0
  late_mine_at (at.Asks (asking.GivesUp word)) f = late_mine f.0
  late_mine_at at.Makes f = absurd f
  late_mine_at at.Roots f = absurd f
  late_mine_at (at.Counts removed) f = absurd f
  late_mine_at (at.Helps copier goal) f = absurd f
  late_mine_at (at.Disposes d answer) f = absurd f
  late_mine_at (at.Drops end) f = absurd f
  late_mine_at (at.Over end) f = absurd f
