-- In blocking mode: what a call on one key knows lasts over steps of others. Where the root leaves its table, it knows what is to be known then.
use Rattle.std.proofs.Common.{◌≡◌, ℕ, suc, ◌<◌, ◌≤◌, Bool, true, false, cond, ◌⊎◌, inl, inr, arith, sym, subst}
use Rattle.std.proofs.lemmas.Bool.{cases_lt}
use Rattle.map_facts.specs.Given.SeizeWorld.{World}
use Rattle.map_facts.specs.Given.TablesChunks.{is_incremental}
use Rattle.map_facts.specs.Given.TablesDeclared.node.Node.{Node}
use Rattle.map_facts.specs.Given.TablesDeclared.setting.Setting.{Setting}
use Rattle.map_facts.specs.Given.TablesDeclared.table.Table.{Table}
use Rattle.map_facts.specs.Given.TablesDeclared.trial.Trial.{Trial}
use Rattle.map_facts.specs.Given.RawDeclared.machines.asking.Asking.{Asking}
use Rattle.map_facts.specs.Given.RawDeclared.machines.asking.Asking.TheVariants as asking
use Rattle.map_facts.specs.Given.RawDeclared.machines.asking.Gap.{Gap}
use Rattle.map_facts.specs.Given.RawDeclared.machines.asking.Gap.TheVariants as gaps
use Rattle.map_facts.specs.Given.ResizeDeclared.lookup.Looking.{Looking}
use Rattle.map_facts.specs.Given.ResizeDeclared.lookup.Looking.TheVariants as looks
use Rattle.map_facts.specs.Given.RawDeclared.machines.call.KeyCall.{KeyCall}
use Rattle.map_facts.specs.Given.RawDeclared.machines.call.Calling.{Calling}
use Rattle.map_facts.specs.Given.RawDeclared.machines.call.Calling.TheVariants as at
use Rattle.map_facts.specs.Given.RuleChart.{Chart}
use Rattle.map_facts.specs.Given.RuleRule.{Rule, Passed, ShutBefore}
use Rattle.map_facts.specs.Given.RuleMoves.{MayChange}
use Rattle.map_facts.specs.Given.RuleWords.{Blocks}
use Rattle.map_facts.specs.Given.RuleMaps.{spot_of, IsTable, IsTrial, NoneBefore}
use Rattle.map_facts.specs.Given.RuleMoments.{Moments}
use Rattle.map_facts.specs.Given.RuleLeaves.{Leaves}
use Rattle.map_facts.specs.Given.RuleInWorld.{IsMapIn}
use Rattle.map_facts.specs.FactsIdle.{IsIdle}
use Rattle.map_facts.specs.FactsCopies.{HasDone, ClaimsNone}
use Rattle.map_facts.specs.FactsCopiesBlocking.{HasNoShares}
use Rattle.map_facts.specs.FactsLooks.{LookingFacts}
use Rattle.map_facts.specs.FactsCalls.{IsCopying, Change, Unchanged, Seeks, HasIts, IsToFill, AtTry, MayTry, ShutUpTo, GapFacts, AskingFacts, CallingFacts, CallFacts}
use Rattle.map_facts_late.proofs.Known.Own.{table_here, own_here, its_here, to_fill_here, names_here, replaces_here, may_try_here, known_here, tells_here}
use Rattle.map_facts_late.proofs.Known.Pairs.{word_here, left_here}
use Rattle.map_facts_late.proofs.Known.Tables.{passed_on, trial_on}
use Rattle.map_facts.specs.Others.{OthersStep}
use Rattle.map_facts_late.specs.Left.{Left}
use Rattle.map_facts_late.specs.LateLooks.{IsSupersededTrial, SupersededLooking}
use Rattle.map_facts_late.specs.LateCalls.{SupersededGap, SupersededAsking, SupersededCalling, SupersededCallFacts}
use Rattle.map_facts_late.proofs.Lasts.Tables.{left_on, left_now, next_table_on, first_table_on, late_first_on}
use Rattle.map_facts_late.proofs.Lasts.Copiers.{ClaimsStayFew, copier_on, late_copier_idle, late_copier_on}
use Rattle.map_facts_late.proofs.Lasts.Copiers as copiers
use Rattle.map_facts_late.proofs.Lasts.Disposals as disposals

module _ {K V Q : Type 0} (same : K → K → Bool) (hash : K → ℕ) (asks : Q → K → Bool) (setting : Setting) (blocking : is_incremental setting.mode ≡ false) (caller : ℕ) (w w2 : World (Node K V))
    (c c2 : Chart K) (blocks blocks2 : Blocks) (map : IsMapIn same hash setting w c blocks) (map2 : IsMapIn same hash setting w2 c2 blocks2) (moments : Moments (is_incremental setting.mode) c)
    (others : OthersStep same hash setting caller w c blocks w2 c2 blocks2) (keys : K → Bool) (began : ℕ) (since : began ≤ c.now) where
  rule : Rule same (spot_of hash) false c
  rule = subst (λ (x : Bool). Rule same (spot_of hash) x c) blocking map.map.rule

  leaves : Leaves same (spot_of hash) false caller c c2
  leaves = subst (λ (x : Bool). Leaves same (spot_of hash) x caller c c2) blocking others.leaves

  as_false : (t j : ℕ) (k : K) → Passed same (spot_of hash) (is_incremental setting.mode) c t k j → Passed same (spot_of hash) false c t k j
  as_false t j k = subst (λ (x : Bool). Passed same (spot_of hash) x c t k j) blocking

  as_mode : (t j : ℕ) (k : K) → Passed same (spot_of hash) false c2 t k j → Passed same (spot_of hash) (is_incremental setting.mode) c2 t k j
  as_mode t j k = subst (λ (x : Bool). Passed same (spot_of hash) x c2 t k j) (sym blocking)

  passed_here : (t j : ℕ) → t < c.past → ((k : K) → keys k ≡ true → Passed same (spot_of hash) false c t k j) → (k : K) → keys k ≡ true → Passed same (spot_of hash) false c2 t k j
  passed_here t j made h k asked = passed_on same (spot_of hash) false caller c c2 leaves t k j made (h k asked)

  change_then : (t : ℕ) (k : K) → t ≡ c2.first → MayChange same (spot_of hash) (is_incremental setting.mode) c2 t k
  change_then t k = subst (λ (x : Bool). MayChange same (spot_of hash) x c2 t k) (sym blocking)

  left_then : (t : ℕ) → t ≡ c.first → c.first < c2.first → Left c2 began t
  left_then t e on = subst (Left c2 began) (sym e) (left_now same (spot_of hash) false caller c c2 leaves began since rule.common.live on)

  stays : (t : ℕ) → t ≡ c.first → c2.first ≤ c.first → t ≡ c2.first
  stays t e still = let f = leaves.lasts.first in omega (arith, e, still, f)

  -- at a try, the table is the root's, or the root has left it
  module _ (trial : Trial) (code : ℕ) where
    abbrev FreshTry : Type 0
    FreshTry = (t : ℕ) × (j : ℕ) × IsTrial c2 blocks2 trial code t j × NoneBefore same hash (is_incremental setting.mode) c2 keys t j × (t ≡ c2.first)

    abbrev LateTry : Type 0
    LateTry = IsSupersededTrial same hash keys code c2 blocks2 began trial

    try_on : (t j : ℕ) → IsTrial c blocks trial code t j → NoneBefore same hash (is_incremental setting.mode) c keys t j → t ≡ c.first → FreshTry ⊎ LateTry
    try_on t j there none root =
        let there2 = trial_on same hash setting caller w w2 c c2 blocks blocks2 others trial code t j there in
        let passed = passed_here t j there.table.made (λ k asked. as_false t j k (none k asked).0) in
        elim (cases_lt c.first c2.first) as (λ _. FreshTry ⊎ LateTry) [
          | inl on ↦ inr (t, j, there2, passed, left_then t root on)
          | inr still ↦ inl (t, j, there2, (λ k asked. (as_mode t j k (passed k asked), change_then t k (stays t root still))), stays t root still)
        ]

    late_try_on : IsSupersededTrial same hash keys code c blocks began trial → LateTry
    late_try_on (t, j, there, passed, left) =
        (t, j, trial_on same hash setting caller w w2 c c2 blocks blocks2 others trial code t j there, passed_here t j there.table.made passed, left_on same (spot_of hash) false caller c c2 leaves began t left)

  -- a lookup
  looking_on : (code : ℕ) (stands : Looking) → LookingFacts same hash setting.mode setting.root keys code c blocks stands
      → LookingFacts same hash setting.mode setting.root keys code c2 blocks2 stands ⊎ SupersededLooking same hash keys code c2 blocks2 began stands
  looking_on code looks.Roots h = inl h
  looking_on code (looks.Probes trial) h = elim (try_on trial code h.0 h.1 h.2 h.3 (h.4 blocking)) [
    | inl fresh ↦ inl (fresh.0, fresh.1, fresh.2, fresh.3, λ e. fresh.4)
    | inr late ↦ inr late
  ]
  looking_on code (looks.Nexts table) h = absurd (let e = h.0 in cc (blocking, e))
  looking_on code (looks.Over found) h = absurd h

  late_looking_on : (code : ℕ) (stands : Looking) → SupersededLooking same hash keys code c blocks began stands → SupersededLooking same hash keys code c2 blocks2 began stands
  late_looking_on code (looks.Probes trial) h = late_try_on trial code h
  late_looking_on code looks.Roots h = absurd h
  late_looking_on code (looks.Nexts table) h = absurd h
  late_looking_on code (looks.Over found) h = absurd h

  module _ (change : Change) where
    table_then : (table : Table) (t : ℕ) → IsTable c blocks table t → IsTable c2 blocks2 table t
    table_then = table_here same hash asks setting caller w w2 c c2 blocks blocks2 map others keys change

    own_then : (p : KeyCall K V Q) → HasIts same hash asks w caller setting c blocks keys change p → HasIts same hash asks w2 caller setting c2 blocks2 keys change p
    own_then = its_here same hash asks setting caller w w2 c c2 blocks blocks2 map others keys change

    is_root : (t : ℕ) → ShutUpTo same hash asks w caller setting c blocks keys change t → t ≡ c.first
    is_root t h = subst (λ (x : Bool). cond x ((k : K) → keys k ≡ true → ShutBefore same (spot_of hash) true c (suc t) k) (t ≡ c.first)) blocking h

    root_then : (t : ℕ) → t ≡ c2.first → ShutUpTo same hash asks w2 caller setting c2 blocks2 keys change t
    root_then t h = subst (λ (x : Bool). cond x ((k : K) → keys k ≡ true → ShutBefore same (spot_of hash) true c2 (suc t) k) (t ≡ c2.first)) (sym blocking) h

    abbrev FreshAt : KeyCall K V Q → Calling → Type 0
    FreshAt p stands = CallingFacts same hash asks w2 caller setting c2 blocks2 keys change p stands

    abbrev LateAt : KeyCall K V Q → Calling → Type 0
    LateAt p stands = SupersededCalling same hash asks w2 caller setting c2 blocks2 keys began p stands

    -- of a call that has changed nothing
    as_its : change ≡ Unchanged → (p : KeyCall K V Q) → HasIts same hash asks w2 caller setting c2 blocks2 keys change p → HasIts same hash asks w2 caller setting c2 blocks2 keys Unchanged p
    as_its none p h = subst (λ (x : Change). HasIts same hash asks w2 caller setting c2 blocks2 keys x p) none h

    as_to_fill : change ≡ Unchanged → (p : KeyCall K V Q) → IsToFill same hash asks w2 caller setting c2 blocks2 keys change p → IsToFill same hash asks w2 caller setting c2 blocks2 keys Unchanged p
    as_to_fill none p h = subst (λ (x : Change). IsToFill same hash asks w2 caller setting c2 blocks2 keys x p) none h

    as_try : change ≡ Unchanged → (p : KeyCall K V Q) (word new : ℕ) → MayTry same hash asks w2 caller setting c2 blocks2 keys change p word new → MayTry same hash asks w2 caller setting c2 blocks2 keys Unchanged p word new
    as_try none p word new h = subst (λ (x : Change). MayTry same hash asks w2 caller setting c2 blocks2 keys x p word new) none h

    -- its try, in its table or in one that the root has left
    try_then : (p : KeyCall K V Q) → AtTry same hash asks w caller setting c blocks keys change p
        → AtTry same hash asks w2 caller setting c2 blocks2 keys change p ⊎ IsSupersededTrial same hash keys p.hash c2 blocks2 began p.trial
    try_then p (t, j, there, none, root) = elim (try_on p.trial p.hash t j there none (root blocking)) [
      | inl fresh ↦ inl (fresh.0, fresh.1, fresh.2, fresh.3, λ e. fresh.4)
      | inr late ↦ inr late
    ]

    gap_then : (p : KeyCall K V Q) (gap : Gap) → GapFacts same hash asks w caller setting c blocks keys change p gap
        → GapFacts same hash asks w2 caller setting c2 blocks2 keys change p gap ⊎ SupersededGap same hash asks w2 caller setting c2 blocks2 keys began p gap
    gap_then p gaps.NoTable h = inl h
    gap_then p gaps.Free h = try_then p h
    gap_then p gaps.Past (t, (there, shut)) = elim (cases_lt c.first c2.first) [
      | inl on ↦ inr (t, table_then p.trial.table t there, left_then t (is_root t shut) on)
      | inr still ↦ inl (t, (table_then p.trial.table t there, root_then t (stays t (is_root t shut) still)))
    ]
    gap_then p gaps.Last h = absurd (let e = h.0 in cc (blocking, e))

    asking_on : (p : KeyCall K V Q) (asks_at : Asking) → change ≡ Unchanged → AskingFacts same hash asks w caller setting c blocks keys change p asks_at
        → FreshAt p (at.Asks asks_at) ⊎ LateAt p (at.Asks asks_at)
    asking_on p (asking.Absent gap) none (own, is, facts) =
        let own2 = own_then p own in
        elim (gap_then p gap facts) as (λ _. FreshAt p (at.Asks (asking.Absent gap)) ⊎ LateAt p (at.Asks (asking.Absent gap))) [
          | inl fresh ↦ inl (own2, is, fresh)
          | inr late ↦ inr (as_its none p own2, is, late)
        ]
    asking_on p (asking.Present word) none (own, is, names, try) =
        let own2 = own_then p own in
        let names2 = names_here same hash asks setting caller w w2 c c2 blocks blocks2 map others keys change word names in
        elim (try_then p try) as (λ _. FreshAt p (at.Asks (asking.Present word)) ⊎ LateAt p (at.Asks (asking.Present word))) [
          | inl fresh ↦ inl (own2, is, names2, fresh)
          | inr late ↦ inr (as_its none p own2, is, names2, late)
        ]
    asking_on p (asking.Fills word) none (held, by_reply, told, may, try) =
        let held2 = to_fill_here same hash asks setting caller w w2 c c2 blocks blocks2 map others keys change p held in
        let may2 = replaces_here same hash asks setting caller w w2 c c2 blocks blocks2 map others keys change word may in
        elim (try_then p try) as (λ _. FreshAt p (at.Asks (asking.Fills word)) ⊎ LateAt p (at.Asks (asking.Fills word))) [
          | inl fresh ↦ inl (held2, by_reply, told, may2, fresh)
          | inr late ↦ inr (as_to_fill none p held2, by_reply, told, may2, late)
        ]
    asking_on p (asking.GivesUp word) none (own, by_reply, some, names, try) =
        let own2 = own_then p own in
        let names2 = names_here same hash asks setting caller w w2 c c2 blocks blocks2 map others keys change word names in
        elim (try_then p try) as (λ _. FreshAt p (at.Asks (asking.GivesUp word)) ⊎ LateAt p (at.Asks (asking.GivesUp word))) [
          | inl fresh ↦ inl (own2, by_reply, some, names2, fresh)
          | inr late ↦ inr (as_its none p own2, by_reply, some, names2, late)
        ]

    calling_on : ClaimsStayFew c c2 → (p : KeyCall K V Q) (stands : Calling) → (Seeks same hash asks w caller setting c blocks keys change stands → change ≡ Unchanged)
        → CallingFacts same hash asks w caller setting c blocks keys change p stands → FreshAt p stands ⊎ LateAt p stands
    calling_on few p at.Makes seeks h = inl h
    calling_on few p (at.Looks lookup) seeks (own, missing_is, there_is, q, asked, alike, h) = elim (looking_on p.hash lookup.stands h.point) [
      | inl fresh ↦ inl (own, missing_is, there_is, q, asked, alike, record { root_is = h.root_is; mode_is = h.mode_is; hash_is = h.hash_is; point = fresh })
      | inr late ↦ inr (own, missing_is, there_is, q, asked, alike, record { root_is = h.root_is; mode_is = h.mode_is; hash_is = h.hash_is; point = late })
    ]
    calling_on few p at.Roots seeks h = inl (own_then p h)
    calling_on few p at.Probes seeks (own, try) =
        let own2 = own_then p own in
        elim (try_then p try) as (λ _. FreshAt p at.Probes ⊎ LateAt p at.Probes) [
          | inl fresh ↦ inl (own2, fresh)
          | inr late ↦ inr (as_its (seeks tt) p own2, late)
        ]
    calling_on few p (at.Tries word new) seeks (own, may, try) =
        let own2 = own_then p own in
        let may2 = may_try_here same hash asks setting caller w w2 c c2 blocks blocks2 map others keys change p word new may in
        elim (try_then p try) as (λ _. FreshAt p (at.Tries word new) ⊎ LateAt p (at.Tries word new)) [
          | inl fresh ↦ inl (own2, may2, fresh)
          | inr late ↦ inr (as_its (seeks tt) p own2, late, as_try (seeks tt) p word new may2)
        ]
    calling_on few p at.Nexts seeks (own, t, (there, shut)) =
        let own2 = own_then p own in
        elim (cases_lt c.first c2.first) as (λ _. FreshAt p at.Nexts ⊎ LateAt p at.Nexts) [
          | inl on ↦ inr (as_its (seeks tt) p own2, t, table_then p.trial.table t there, left_then t (is_root t shut) on)
          | inr still ↦ inl (own2, t, (table_then p.trial.table t there, root_then t (stays t (is_root t shut) still)))
        ]
    calling_on few p (at.Firsts making) seeks (own, puts, h) =
        let own2 = own_then p own in
        elim (first_table_on same hash setting blocking caller w w2 c c2 blocks blocks2 others began since rule.common.live making h) as (λ _. FreshAt p (at.Firsts making) ⊎ LateAt p (at.Firsts making)) [
          | inl fresh ↦ inl (own2, puts, fresh)
          | inr late ↦ inr (as_its (seeks tt) p own2, puts, late)
        ]
    calling_on few p (at.Allocs making) seeks (own, t, (there, shut), h) =
        let own2 = own_then p own in
        let h2 = next_table_on same hash setting blocking caller w w2 c c2 blocks blocks2 others t (suc t) there.made there.known making h in
        elim (cases_lt c.first c2.first) as (λ _. FreshAt p (at.Allocs making) ⊎ LateAt p (at.Allocs making)) [
          | inl on ↦ inr (as_its (seeks tt) p own2, t, table_then p.trial.table t there, left_then t (is_root t shut) on, h2)
          | inr still ↦ inl (own2, t, (table_then p.trial.table t there, root_then t (stays t (is_root t shut) still)), h2)
        ]
    calling_on few p (at.Helps copier goal) seeks h = absurd (let e = h.1 in cc (blocking, e))
    calling_on few p (at.Copies copier) seeks (own, mode, h) =
        let own2 = own_then p own in
        elim (copier_on same hash setting blocking caller w w2 c c2 blocks blocks2 map moments others began since few copier h) as (λ _. FreshAt p (at.Copies copier) ⊎ LateAt p (at.Copies copier)) [
          | inl fresh ↦ inl (own2, mode, fresh)
          | inr late ↦ inr (as_its (seeks tt) p own2, late)
        ]
    calling_on few p (at.Counts removed) seeks (inl (zero_is, n, is, known, word)) =
        inl (inl (zero_is, n, is, known_here same hash asks setting caller w w2 c c2 blocks blocks2 map others keys change n known, word_here same hash setting caller w w2 c c2 blocks blocks2 map others n known.0 known.1 false p.own word))
    calling_on few p (at.Counts removed) seeks (inr (n, t, borrowed, is, left, word, there, out)) =
        inl (inr (
          n,
          t,
          borrowed,
          is,
          left_here same hash setting caller w w2 c c2 blocks blocks2 map others n left,
          word_here same hash setting caller w w2 c c2 blocks blocks2 map others n left.0 left.1 borrowed removed word,
          table_then p.trial.table t there,
          disposals.out_on same hash setting blocking caller w w2 c c2 blocks blocks2 map map2 others n left t borrowed out,
        ))
    calling_on few p (at.Disposes dispose answer) seeks (h, tells) =
        inl (disposals.dispose_on same hash setting blocking caller w w2 c c2 blocks blocks2 map map2 others dispose h, tells_here same hash asks setting caller w w2 c c2 blocks blocks2 map others keys change change answer tells)
    calling_on few p (at.Drops end) seeks (none, own) = inl (none, own_here same hash asks setting caller w w2 c c2 blocks blocks2 map others keys change p.own p.hash own)
    calling_on few p (at.Asks asks_at) seeks h = asking_on p asks_at (seeks tt) h
    calling_on few p (at.Over end) seeks h = inl h

    idle_in : IsIdle same hash w caller setting c blocks → HasNoShares same hash w caller setting c blocks
    idle_in h = subst (λ (x : Bool). cond x (HasDone same hash w caller setting c blocks 0 × ClaimsNone same hash w caller setting c blocks) (HasNoShares same hash w caller setting c blocks)) blocking h

    idle_out : HasNoShares same hash w2 caller setting c2 blocks2 → IsIdle same hash w2 caller setting c2 blocks2
    idle_out h = subst (λ (x : Bool). cond x (HasDone same hash w2 caller setting c2 blocks2 0 × ClaimsNone same hash w2 caller setting c2 blocks2) (HasNoShares same hash w2 caller setting c2 blocks2)) (sym blocking) h

    none_then : HasNoShares same hash w caller setting c blocks → HasNoShares same hash w2 caller setting c2 blocks2
    none_then = copiers.idle_on same hash setting blocking caller w w2 c c2 blocks blocks2 map moments others began since

    -- a caller that has no part in a copying has none still
    pub idle_on : IsIdle same hash w caller setting c blocks → IsIdle same hash w2 caller setting c2 blocks2
    idle_on h = idle_out (none_then (idle_in h))

    -- what it is to know then it knows only where it seeks, and it has no part in a copying
    late_seeks : (p : KeyCall K V Q) (stands : Calling) → LateAt p stands → Seeks same hash asks w caller setting c blocks keys change stands
    late_seeks p (at.Counts removed) h = absurd h
    late_seeks p (at.Disposes dispose answer) h = absurd h
    late_seeks p (at.Over end) h = absurd h
    late_seeks p _ h = tt

    late_idle : (p : KeyCall K V Q) (stands : Calling) → ((IsCopying stands → ⊥) → IsIdle same hash w caller setting c blocks) → LateAt p stands → HasNoShares same hash w2 caller setting c2 blocks2
    late_idle p (at.Copies copier) idle h = late_copier_idle same hash w2 caller setting c2 blocks2 began copier copier.stands h.1.point
    late_idle p (at.Helps copier goal) idle h = absurd h
    late_idle p _ idle h = none_then (idle_in (idle (λ z. z)))

  -- what it knows, or what it is to know once the root has left its table
  pub call_on : (change : Change) → ClaimsStayFew c c2 → (p : KeyCall K V Q) → CallFacts same hash asks w caller setting c blocks keys change p
      → CallFacts same hash asks w2 caller setting c2 blocks2 keys change p ⊎ ((change ≡ Unchanged) × SupersededCallFacts same hash asks w2 caller setting c2 blocks2 keys began p)
  call_on change few p h = elim (calling_on change few p p.stands h.unchanged h.point) [
    | inl fresh ↦ inl (record { setting_is = h.setting_is; may = h.may; code = h.code; class = h.class; unchanged = h.unchanged; idle = λ none. idle_on change (h.idle none); point = fresh })
    | inr late ↦ inr (
      h.unchanged (late_seeks change p p.stands late),
      record { blocking = blocking; setting_is = h.setting_is; may = h.may; code = h.code; class = h.class; idle = late_idle change p p.stands h.idle late; point = late },
    )
  ]

  -- and that it knows on
  module _ (p : KeyCall K V Q) where
    its : HasIts same hash asks w caller setting c blocks keys Unchanged p → HasIts same hash asks w2 caller setting c2 blocks2 keys Unchanged p
    its = own_then Unchanged p

    there_on : (t : ℕ) → IsTable c blocks p.trial.table t → IsTable c2 blocks2 p.trial.table t
    there_on = table_then Unchanged p.trial.table

    late_gap : (gap : Gap) → SupersededGap same hash asks w caller setting c blocks keys began p gap → SupersededGap same hash asks w2 caller setting c2 blocks2 keys began p gap
    late_gap gaps.NoTable h = h
    late_gap gaps.Free h = late_try_on p.trial p.hash h
    late_gap gaps.Past (t, there, left) = (t, there_on t there, left_on same (spot_of hash) false caller c c2 leaves began t left)
    late_gap gaps.Last h = h

    late_asking : (asks_at : Asking) → SupersededAsking same hash asks w caller setting c blocks keys began p asks_at → SupersededAsking same hash asks w2 caller setting c2 blocks2 keys began p asks_at
    late_asking (asking.Absent gap) (own, is, h) = (its own, is, late_gap gap h)
    late_asking (asking.Present word) (own, is, names, h) = (its own, is, names_here same hash asks setting caller w w2 c c2 blocks blocks2 map others keys Unchanged word names, late_try_on p.trial p.hash h)
    late_asking (asking.Fills word) (held, by_reply, told, may, h) = (
      to_fill_here same hash asks setting caller w w2 c c2 blocks blocks2 map others keys Unchanged p held,
      by_reply,
      told,
      replaces_here same hash asks setting caller w w2 c c2 blocks blocks2 map others keys Unchanged word may,
      late_try_on p.trial p.hash h,
    )
    late_asking (asking.GivesUp word) (own, by_reply, some, names, h) = (its own, by_reply, some, names_here same hash asks setting caller w w2 c c2 blocks blocks2 map others keys Unchanged word names, late_try_on p.trial p.hash h)

    late_calling : (stands : Calling) → SupersededCalling same hash asks w caller setting c blocks keys began p stands → SupersededCalling same hash asks w2 caller setting c2 blocks2 keys began p stands
    late_calling (at.Looks lookup) (own, missing_is, there_is, q, asked, alike, h) =
        (own, missing_is, there_is, q, asked, alike, record { root_is = h.root_is; mode_is = h.mode_is; hash_is = h.hash_is; point = late_looking_on p.hash lookup.stands h.point })
    late_calling at.Probes (own, h) = (its own, late_try_on p.trial p.hash h)
    late_calling (at.Tries word new) (own, h, may) =
        (its own, late_try_on p.trial p.hash h, may_try_here same hash asks setting caller w w2 c c2 blocks blocks2 map others keys Unchanged p word new may)
    late_calling at.Nexts (own, t, there, left) = (its own, t, there_on t there, left_on same (spot_of hash) false caller c c2 leaves began t left)
    late_calling (at.Firsts making) (own, puts, h) = (its own, puts, late_first_on same hash setting blocking caller w w2 c c2 blocks blocks2 others began making h)
    late_calling (at.Allocs making) (own, t, there, left, h) = (
      its own,
      t,
      there_on t there,
      left_on same (spot_of hash) false caller c c2 leaves began t left,
      next_table_on same hash setting blocking caller w w2 c c2 blocks blocks2 others t (suc t) there.made there.known making h,
    )
    late_calling (at.Copies copier) (own, h) = (its own, late_copier_on same hash setting blocking caller w w2 c c2 blocks blocks2 map moments others began since copier h)
    late_calling at.Makes h = absurd h
    late_calling at.Roots h = absurd h
    late_calling (at.Helps copier goal) h = absurd h
    late_calling (at.Counts removed) h = absurd h
    late_calling (at.Disposes dispose answer) h = absurd h
    late_calling (at.Asks asks_at) h = late_asking asks_at h
    late_calling (at.Drops end) h = absurd h
    late_calling (at.Over end) h = absurd h

  pub late_call_on : (p : KeyCall K V Q) → SupersededCallFacts same hash asks w caller setting c blocks keys began p → SupersededCallFacts same hash asks w2 caller setting c2 blocks2 keys began p
  late_call_on p h = record {
    blocking = blocking;
    setting_is = h.setting_is;
    may = h.may;
    code = h.code;
    class = h.class;
    idle = none_then Unchanged h.idle;
    point = late_calling p p.stands h.point;
  }
