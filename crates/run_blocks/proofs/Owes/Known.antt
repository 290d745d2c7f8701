-- What a call knows of the table where it changes its map, and, as its disposal reads the root, of that.
use Rattle.std.specs.Prelude.{◌≡◌, ℕ, Bool, Some}
use Rattle.std.proofs.Common.{ap, subst, inl, inr, arith}
use Rattle.run_debts.specs.Given.SeizeWordsMem.{word_at, value_at}
use Rattle.run_debts.specs.Given.SeizeWordsWord.{block_in}
use Rattle.run_debts.specs.Given.SeizeWordsDeclared.at.At.TheVariants.{Root}
use Rattle.run_debts.specs.Given.SeizeWorld.{World}
use Rattle.run_debts.specs.Given.TablesNodes.{table_seen}
use Rattle.run_debts.specs.Given.TablesDeclared.node.Node.{Node}
use Rattle.run_debts.specs.Given.TablesDeclared.setting.Setting.{Setting}
use Rattle.run_debts.specs.Given.TablesDeclared.table.Table.{Table}
use Rattle.owner_calls.specs.Given.ResizeDeclared.dispose.Dispose.{Dispose}
use Rattle.owner_calls.specs.Given.ResizeDeclared.dispose.Disposing.TheVariants as disposal
use Rattle.run_debts.specs.Given.ReservesDeclared.sweep.Sweeping.{Sweeping}
use Rattle.run_debts.specs.Given.ReservesDeclared.sweep.Sweeping.TheVariants as sweeping
use Rattle.run_debts.specs.Given.RawDeclared.machines.answer.KeyAnswer.{KeyAnswer}
use Rattle.run_debts.specs.Given.RawDeclared.machines.call.Calling.{Calling}
use Rattle.run_debts.specs.Given.RawDeclared.machines.call.Calling.TheVariants as calling
use Rattle.owner_calls.specs.Given.RuleChart.{Chart}
use Rattle.owner_calls.specs.Given.RuleInWorld.{IsMapIn}
use Rattle.owner_calls.specs.Given.RuleLinks.{IsLinkTo}
use Rattle.owner_calls.specs.Given.RuleMaps.{IsTable}
use Rattle.owner_calls.specs.Given.RuleWords.{Blocks}
use Rattle.owner_calls.proofs.Given.RuleWords.LinksRead.{link_table}
use Rattle.owner_calls.proofs.Given.RuleWords.LinksSeen.{link_made, root_leads}
use Rattle.owner_calls.specs.Given.PointsFactsCalls.{CallingFacts}
use Rattle.owner_calls.specs.Given.PointsFactsDisposes.{DisposeFacts}
use Rattle.owner_calls.specs.Given.PointsTold.{IsRowOf, IsRowOfCall}
use Rattle.owner_calls.specs.Given.LateFactsSweeps.{SweepingFacts}
use Rattle.owner_calls.specs.Given.LateLateCalls.{SupersededCalling}
use Rattle.owner_calls.specs.Given.LateToldSweeps.{IsRowOfSweep}
use Rattle.owner_calls.specs.Given.CallersOverAll.{CallOverAll}
use Rattle.owner_calls.specs.Given.CallersTogether.{CallOnKey, OnKey, OverAll, IsAtPoint, in_slot}

-- the root that a disposal reads is the first table of its map
pub root_turn : {K V : Type 0} (same : K → K → Bool) (hash : K → ℕ) (setting : Setting) (w : World (Node K V)) (caller : ℕ) (c : Chart K) (blocks : Blocks) → IsMapIn same hash setting w c blocks
    → (d : Dispose) → DisposeFacts w caller setting c blocks d → (root : ℕ) (value : Node K V) → word_at w.memory (Root d.setting.root) ≡ Some root → value_at w.memory (block_in root) ≡ Some value
    → (table_seen root value).turn ≡ c.first
root_turn same hash setting w caller c blocks map d facts root value read seen =
    let leads : IsLinkTo c blocks root c.first =
    link_made c blocks root c.first
    (root_leads same hash setting.mode setting.root w.memory c blocks map.map root (subst (λ (s : Setting). word_at w.memory (Root s.root) ≡ Some root) facts.setting_is read))
    (let made = facts.table.made in map.map.rule.common.rooted (omega (arith, made))) in
    let entered : IsTable c blocks (table_seen root value) c.first = link_table hash w.memory c blocks setting.root map.map.shows root c.first leads value seen in
    ap (λ (x : Table). x.turn) entered.is

module _ {K V : Type 0} (same : K → K → Bool) (hash : K → ℕ) (setting : Setting) (slot : ℕ → ℕ) (w : World (Node K V)) (c : Chart K) (seen : Blocks) (i : ℕ) where
  abbrev own : Setting
  own = in_slot setting (slot i)

  -- of a call on one key
  module _ (x : CallOnKey K V K) (stands : IsAtPoint V same hash same setting slot w c seen i (OnKey x)) where
    abbrev At : Calling → Type 0
    At q = CallingFacts same hash same w i own c seen x.keys x.change x.call q

    abbrev LateAt : Calling → Type 0
    LateAt q = SupersededCalling same hash same w i own c seen x.keys x.began x.call q

    abbrev Tries : Type 0
    Tries = (t : ℕ) × IsTable c seen x.call.trial.table t × (x.call.setting ≡ own)

    pub key_tries : (word new : ℕ) → x.call.stands ≡ calling.Tries word new → Tries
    key_tries word new is = elim stands as (λ _. Tries) [
      | inl k ↦ elim (k.1.facts) as (λ _. Tries) [
        | inl facts ↦ let p : At (calling.Tries word new) = subst At is facts.point in (p.2.0, p.2.2.table, facts.setting_is)
        | inr late ↦ let p : LateAt (calling.Tries word new) = subst LateAt is late.1.point in (p.1.0, p.1.2.table, late.1.setting_is)
      ]
      | inr k ↦ absurd (subst IsRowOfCall is k.1)
    ]

    pub key_reads : (d : Dispose) (answer : KeyAnswer) → x.call.stands ≡ calling.Disposes d answer → d.stands ≡ disposal.Reads → DisposeFacts w i own c seen d
    key_reads d answer is reads = elim stands as (λ _. DisposeFacts w i own c seen d) [
      | inl k ↦ elim (k.1.facts) as (λ _. DisposeFacts w i own c seen d) [
        | inl facts ↦ let p : At (calling.Disposes d answer) = subst At is facts.point in p.0
        | inr late ↦ absurd (let p : LateAt (calling.Disposes d answer) = subst LateAt is late.1.point in p)
      ]
      | inr k ↦ absurd (let row : IsRowOfCall (calling.Disposes d answer) = subst IsRowOfCall is k.1 in let none : IsRowOf disposal.Reads = subst IsRowOf reads row in none)
    ]

  -- and of a sweep
  module _ (x : CallOverAll) (stands : IsAtPoint V same hash same setting slot w c seen i (OverAll x)) where
    abbrev SweptAt : Sweeping → Type 0
    SweptAt q = SweepingFacts same hash w i own c seen x.began x.sweep q

    abbrev SweptTries : Type 0
    SweptTries = (t : ℕ) × IsTable c seen x.sweep.table t × (x.sweep.setting ≡ own)

    pub sweep_tries : (word : ℕ) → x.sweep.stands ≡ sweeping.Tries word → SweptTries
    sweep_tries word is = elim stands as (λ _. SweptTries) [
      | inl k ↦ let p : SweptAt (sweeping.Tries word) = subst SweptAt is k.1.facts.point in (p.2, p.3.0.table, k.1.facts.setting_is)
      | inr k ↦ absurd (subst IsRowOfSweep is k.1)
    ]

    pub sweep_reads : (d : Dispose) → x.sweep.stands ≡ sweeping.Disposes d → d.stands ≡ disposal.Reads → DisposeFacts w i own c seen d
    sweep_reads d is reads = elim stands as (λ _. DisposeFacts w i own c seen d) [
      | inl k ↦ let p : SweptAt (sweeping.Disposes d) = subst SweptAt is k.1.facts.point in p.3
      | inr k ↦ absurd (let row : IsRowOfSweep (sweeping.Disposes d) = subst IsRowOfSweep is k.1 in let none : IsRowOf disposal.Reads = subst IsRowOf reads row in none)
    ]
