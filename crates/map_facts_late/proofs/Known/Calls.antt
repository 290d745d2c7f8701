-- In incremental mode: what a call on one key knows at its point it knows after steps of others.
use Rattle.std.specs.Prelude.{◌≡◌, ℕ, suc, ◌<◌, Bool, true, false, cond}
use Rattle.std.proofs.Common.{refl, sym, subst, inl, inr, arith}
use Rattle.map_facts.specs.Given.SeizeWorld.{World}
use Rattle.map_facts.specs.Given.SeizeWordsDeclared.at.At.TheVariants.{Root}
use Rattle.map_facts.specs.Given.TablesChunks.{is_incremental}
use Rattle.map_facts.specs.Given.TablesDeclared.node.Node.{Node}
use Rattle.map_facts.specs.Given.TablesDeclared.setting.Setting.{Setting}
use Rattle.map_facts.specs.Given.ResizeDeclared.lookup.Lookup.{Lookup}
use Rattle.map_facts.specs.Given.ResizeDeclared.lookup.Looking.{Looking}
use Rattle.map_facts.specs.Given.ResizeDeclared.lookup.Looking.TheVariants as looks
use Rattle.map_facts.specs.Given.ResizeDeclared.dispose.Dispose.{Dispose}
use Rattle.map_facts.specs.Given.RawDeclared.machines.asking.Asking.{Asking}
use Rattle.map_facts.specs.Given.RawDeclared.machines.asking.Asking.TheVariants as asking
use Rattle.map_facts.specs.Given.RawDeclared.machines.asking.Gap.{Gap}
use Rattle.map_facts.specs.Given.RawDeclared.machines.asking.Gap.TheVariants as gaps
use Rattle.map_facts.specs.Given.RawDeclared.machines.call.KeyCall.{KeyCall}
use Rattle.map_facts.specs.Given.RawDeclared.machines.call.Calling.{Calling}
use Rattle.map_facts.specs.Given.RawDeclared.machines.call.Calling.TheVariants as at
use Rattle.map_facts.specs.Given.RuleChart.{Chart}
use Rattle.map_facts.specs.Given.RuleRule.{IsLawful, Rule, ShutBefore}
use Rattle.map_facts.specs.Given.RuleWords.{Blocks}
use Rattle.map_facts.specs.Given.RuleMaps.{spot_of}
use Rattle.map_facts.specs.Given.RuleInWorld.{IsMapIn}
use Rattle.map_facts.specs.FactsLooks.{LookingFacts, LookupFacts}
use Rattle.map_facts.specs.Given.RuleLeaves.{Leaves}
use Rattle.map_facts.specs.FactsDisposes.{DisposeFacts}
use Rattle.map_facts.specs.FactsCopies.{HasDone, ClaimsNone}
use Rattle.map_facts.specs.FactsCopiesBlocking.{HasNoShares}
use Rattle.map_facts.specs.FactsIdle.{IsIdle}
use Rattle.map_facts.specs.FactsCalls.{Change, ShutUpTo, HasTried, AtTry, GapFacts, AskingFacts, CallingFacts, CallFacts}
use Rattle.map_facts_late.proofs.Known.Disposes as disposals
use Rattle.map_facts_late.proofs.Known.Pairs.{word_here, left_here}
use Rattle.map_facts_late.proofs.Known.Own.{table_here, own_here, its_here, to_fill_here, names_here, replaces_here, may_try_here, known_here, tells_here}
use Rattle.map_facts.specs.Others.{OthersStep}
use Rattle.map_facts_late.proofs.Known.Tables.{trial_on, none_on, new_table_on, next_table_on, shut_before_on}
use Rattle.map_facts_late.proofs.Known.Copies.{copier_on, idle_on}

module _ {K V Q : Type 0} (same : K → K → Bool) (hash : K → ℕ) (asks : Q → K → Bool) (lawful : IsLawful same (spot_of hash)) (setting : Setting) (bits : is_incremental setting.mode ≡ true) (caller : ℕ) (w w2 : World (Node K V)) (c c2 : Chart K)
    (blocks blocks2 : Blocks) (map : IsMapIn same hash setting w c blocks) (map2 : IsMapIn same hash setting w2 c2 blocks2) (others : OthersStep same hash setting caller w c blocks w2 c2 blocks2)
    (keys : K → Bool) (change : Change) where
  rule : Rule same (spot_of hash) true c
  rule = subst (λ (x : Bool). Rule same (spot_of hash) x c) bits map.map.rule

  rule2 : Rule same (spot_of hash) true c2
  rule2 = subst (λ (x : Bool). Rule same (spot_of hash) x c2) bits map2.map.rule

  -- a lookup
  looking_here : (code : ℕ) (stands : Looking) → LookingFacts same hash setting.mode setting.root keys code c blocks stands → LookingFacts same hash setting.mode setting.root keys code c2 blocks2 stands
  looking_here code looks.Roots h = h
  looking_here code (looks.Probes trial) h = (
    h.0,
    h.1,
    trial_on same hash setting caller w w2 c c2 blocks blocks2 others trial code h.0 h.1 h.2,
    none_on same hash setting bits caller w w2 c c2 blocks blocks2 others keys h.0 h.1 h.2.table.made h.3,
    λ e. absurd (cc (bits, e)),
  )
  looking_here code (looks.Nexts table) h = (
    h.0,
    h.1,
    table_here same hash asks setting caller w w2 c c2 blocks blocks2 map others keys change table h.1 h.2,
    λ k asked. shut_before_on same (spot_of hash) (is_incremental setting.mode) bits caller c c2 others.leaves (suc h.1) k (let m = h.2.made in omega (arith, m)) (h.3 k asked),
  )
  looking_here code (looks.Over found) h = h

  lookup_here : (code : ℕ) (l : Lookup) → LookupFacts same hash setting.mode setting.root keys code c blocks l → LookupFacts same hash setting.mode setting.root keys code c2 blocks2 l
  lookup_here code l h = record { root_is = h.root_is; mode_is = h.mode_is; hash_is = h.hash_is; point = looking_here code l.stands h.point }

  shut_here : (t : ℕ) → t < c.past → ShutUpTo same hash asks w caller setting c blocks keys change t → ShutUpTo same hash asks w2 caller setting c2 blocks2 keys change t
  shut_here t made h =
      subst (λ (x : Bool). cond x ((k : K) → keys k ≡ true → ShutBefore same (spot_of hash) true c2 (suc t) k) (t ≡ c2.first)) (sym bits) (λ k asked. after k (before k asked))
    where
      before : (k : K) → keys k ≡ true → ShutBefore same (spot_of hash) true c (suc t) k
      before = subst (λ (x : Bool). cond x ((k : K) → keys k ≡ true → ShutBefore same (spot_of hash) true c (suc t) k) (t ≡ c.first)) bits h

      after : (k : K) → ShutBefore same (spot_of hash) true c (suc t) k → ShutBefore same (spot_of hash) true c2 (suc t) k
      after k s u l = (leaves_true).lasts.shut u k refl (omega (arith, l, made)) (s u l)
        where
          leaves_true : Leaves same (spot_of hash) true caller c c2
          leaves_true = subst (λ (x : Bool). Leaves same (spot_of hash) x caller c c2) bits others.leaves

  tried_here : (p : KeyCall K V Q) (t : ℕ) → HasTried same hash asks w caller setting c blocks keys change p t → HasTried same hash asks w2 caller setting c2 blocks2 keys change p t
  tried_here p t h = (table_here same hash asks setting caller w w2 c c2 blocks blocks2 map others keys change p.trial.table t h.0, shut_here t h.0.made h.1)

  dispose_here : (d : Dispose) → DisposeFacts w caller setting c blocks d → DisposeFacts w2 caller setting c2 blocks2 d
  dispose_here = disposals.dispose_on same hash setting bits caller w w2 c c2 blocks blocks2 map map2 others

  at_try_here : (p : KeyCall K V Q) → AtTry same hash asks w caller setting c blocks keys change p → AtTry same hash asks w2 caller setting c2 blocks2 keys change p
  at_try_here p h = (
    h.0,
    h.1,
    trial_on same hash setting caller w w2 c c2 blocks blocks2 others p.trial p.hash h.0 h.1 h.2,
    none_on same hash setting bits caller w w2 c c2 blocks blocks2 others keys h.0 h.1 h.2.table.made h.3,
    λ e. absurd (cc (bits, e)),
  )

  gap_here : (p : KeyCall K V Q) (gap : Gap) → GapFacts same hash asks w caller setting c blocks keys change p gap → GapFacts same hash asks w2 caller setting c2 blocks2 keys change p gap
  gap_here p gaps.NoTable h = h
  gap_here p gaps.Free h = at_try_here p h
  gap_here p gaps.Past h = (h.0, tried_here p h.0 h.1)
  gap_here p gaps.Last h = (h.0, h.1, tried_here p h.1 h.2)

  asking_here : (p : KeyCall K V Q) (asking : Asking) → AskingFacts same hash asks w caller setting c blocks keys change p asking
      → AskingFacts same hash asks w2 caller setting c2 blocks2 keys change p asking
  asking_here p (asking.Absent gap) h = (its_here same hash asks setting caller w w2 c c2 blocks blocks2 map others keys change p h.0, h.1, gap_here p gap h.2)
  asking_here p (asking.Present word) h =
      (its_here same hash asks setting caller w w2 c c2 blocks blocks2 map others keys change p h.0, h.1, names_here same hash asks setting caller w w2 c c2 blocks blocks2 map others keys change word h.2, at_try_here p h.3)
  asking_here p (asking.Fills word) h =
      (to_fill_here same hash asks setting caller w w2 c c2 blocks blocks2 map others keys change p h.0, h.1, h.2, replaces_here same hash asks setting caller w w2 c c2 blocks blocks2 map others keys change word h.3, at_try_here p h.4)
  asking_here p (asking.GivesUp word) h =
      (its_here same hash asks setting caller w w2 c c2 blocks blocks2 map others keys change p h.0, h.1, h.2, names_here same hash asks setting caller w w2 c c2 blocks blocks2 map others keys change word h.3, at_try_here p h.4)

  -- what a call knows at a point
  calling_here : (p : KeyCall K V Q) (stands : Calling) → CallingFacts same hash asks w caller setting c blocks keys change p stands → CallingFacts same hash asks w2 caller setting c2 blocks2 keys change p stands
  calling_here p at.Makes h = h
  calling_here p (at.Looks lookup) h = (h.0, h.1, h.2, h.3, h.4, h.5, lookup_here p.hash lookup h.6)
  calling_here p at.Roots h = its_here same hash asks setting caller w w2 c c2 blocks blocks2 map others keys change p h
  calling_here p at.Probes h = (its_here same hash asks setting caller w w2 c c2 blocks blocks2 map others keys change p h.0, at_try_here p h.1)
  calling_here p (at.Tries word new) h = (
    its_here same hash asks setting caller w w2 c c2 blocks blocks2 map others keys change p h.0,
    may_try_here same hash asks setting caller w w2 c c2 blocks blocks2 map others keys change p word new h.1,
    at_try_here p h.2,
  )
  calling_here p at.Nexts h = (its_here same hash asks setting caller w w2 c c2 blocks blocks2 map others keys change p h.0, h.1, tried_here p h.1 h.2)
  calling_here p (at.Firsts making) h =
      (its_here same hash asks setting caller w w2 c c2 blocks blocks2 map others keys change p h.0, h.1, new_table_on same hash setting bits caller w w2 c c2 blocks blocks2 others (Root setting.root) 0 making h.2)
  calling_here p (at.Allocs making) h = (
    its_here same hash asks setting caller w w2 c c2 blocks blocks2 map others keys change p h.0,
    h.1,
    tried_here p h.1 h.2,
    next_table_on same hash setting bits caller w w2 c c2 blocks blocks2 others h.1 (suc h.1) h.2.0.made h.2.0.known making h.3,
  )
  calling_here p (at.Helps copier goal) h = (
    its_here same hash asks setting caller w w2 c c2 blocks blocks2 map others keys change p h.0,
    h.1,
    h.2,
    h.3,
    table_here same hash asks setting caller w w2 c c2 blocks blocks2 map others keys change goal (suc h.3) h.4,
    shut_here h.3 (let m = h.4.made in omega (arith, m)) h.5,
    copier_on same hash lawful setting bits caller w w2 c c2 blocks blocks2 rule map.map.shows.named (λ t made known. (map.map.shows.tables t made known).value) rule2 others copier h.6,
  )
  calling_here p (at.Copies copier) h = absurd (let e = h.1 in cc (bits, e))
  calling_here p (at.Asks asking) h = asking_here p asking h
  calling_here p (at.Counts removed) (inl h) =
      inl (h.0, h.1, h.2, known_here same hash asks setting caller w w2 c c2 blocks blocks2 map others keys change h.1 h.3, word_here same hash setting caller w w2 c c2 blocks blocks2 map others h.1 h.3.0 h.3.1 false p.own h.4)
  calling_here p (at.Counts removed) (inr h) =
      inr (
        h.0,
        h.1,
        h.2,
        h.3,
        left_here same hash setting caller w w2 c c2 blocks blocks2 map others h.0 h.4,
        word_here same hash setting caller w w2 c c2 blocks blocks2 map others h.0 h.4.0 h.4.1 h.2 removed h.5,
        table_here same hash asks setting caller w w2 c c2 blocks blocks2 map others keys change p.trial.table h.1 h.6,
        disposals.out_on same hash setting bits caller w w2 c c2 blocks blocks2 map map2 others h.0 h.4 (cond (is_incremental setting.mode) h.2 false) h.1 h.7,
      )
  calling_here p (at.Disposes dispose answer) h = (dispose_here dispose h.0, tells_here same hash asks setting caller w w2 c c2 blocks blocks2 map others keys change change answer h.1)
  calling_here p (at.Drops end) h = (h.0, own_here same hash asks setting caller w w2 c c2 blocks blocks2 map others keys change p.own p.hash h.1)
  calling_here p (at.Over end) h = h

  pub idle_on_others : IsIdle same hash w caller setting c blocks → IsIdle same hash w2 caller setting c2 blocks2
  idle_on_others h =
      subst (λ (x : Bool). cond x (HasDone same hash w2 caller setting c2 blocks2 0 × ClaimsNone same hash w2 caller setting c2 blocks2) (HasNoShares same hash w2 caller setting c2 blocks2)) (sym bits)
      (idle_on same hash lawful setting bits caller w w2 c c2 blocks blocks2 rule map.map.shows.named (λ t made known. (map.map.shows.tables t made known).value) rule2 others
      (subst (λ (x : Bool). cond x (HasDone same hash w caller setting c blocks 0 × ClaimsNone same hash w caller setting c blocks) (HasNoShares same hash w caller setting c blocks)) bits h))

  pub call_on : (p : KeyCall K V Q) → CallFacts same hash asks w caller setting c blocks keys change p → CallFacts same hash asks w2 caller setting c2 blocks2 keys change p
  call_on p h = record {
    setting_is = h.setting_is;
    may = h.may;
    code = h.code;
    class = h.class;
    unchanged = h.unchanged;
    idle = λ other. idle_on_others (h.idle other);
    point = calling_here p p.stands h.point;
  }
