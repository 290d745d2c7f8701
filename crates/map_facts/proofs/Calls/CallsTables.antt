-- How a call goes on from table to table.
use Rattle.std.specs.Prelude.{◌≡◌, ℕ, suc, ◌<◌, ◌≤◌, Bool, true, false, cond, if◌then◌else◌}
use Rattle.std.specs.Int.{IsPowerOfTwo}
use Rattle.std.proofs.Common.{refl, ap, sym, subst, ◌∙◌, arith}
use Rattle.papaya_raw.specs.Given.SeizeWorld.{World}
use Rattle.papaya_raw.specs.Given.TablesChunks.{is_incremental}
use Rattle.papaya_raw.specs.CallPoints.{going, tableless, full_for, following_made, asking_at, at_last, answering, entering, continued_in}
use Rattle.map_rule.specs.Given.ResizeCopierStates.{resting, helping, copying_all}
use Rattle.map_rule.specs.Given.ResizeNewTable.{first_table, table_after}
use Rattle.papaya_raw.specs.Given.TablesTrials.{trial_on, found_full}
use Rattle.papaya_raw.specs.Given.TablesDeclared.lengths.TheConstants.{FIRST_LEN}
use Rattle.papaya_raw.specs.Given.TablesDeclared.node.Node.{Node}
use Rattle.papaya_raw.specs.Given.TablesDeclared.setting.Setting.{Setting}
use Rattle.papaya_raw.specs.Given.TablesDeclared.status.TheConstants.Status.{ABORTED}
use Rattle.papaya_raw.specs.Given.TablesDeclared.table.Table.{Table}
use Rattle.papaya_raw.specs.declared.machines.answer.Missing.{Missing}
use Rattle.papaya_raw.specs.declared.machines.answer.Missing.TheVariants as missing
use Rattle.papaya_raw.specs.declared.machines.answer.KeyAnswer.TheVariants as answers
use Rattle.papaya_raw.specs.declared.machines.asking.Gap.TheVariants as gaps
use Rattle.map_rule.specs.Given.ResizeDeclared.copier.Copying.TheVariants as copying
use Rattle.papaya_raw.specs.declared.machines.call.KeyCall.{KeyCall}
use Rattle.papaya_raw.specs.declared.machines.call.Calling.TheVariants as at
use Rattle.map_rule.specs.Chart.{Chart}
use Rattle.map_rule.specs.Rule.{IsLawful, ShutBefore, Rule}
use Rattle.map_rule.specs.Words.{Blocks}
use Rattle.map_rule.specs.Maps.{spot_of, IsMap, IsTable, NoneBefore}
use Rattle.map_facts.specs.FactsCopies.{HasDone, ClaimsNone}
use Rattle.map_facts.specs.FactsCopiesBlocking.{HasNoShares, CopierFactsBlocking}
use Rattle.map_facts.specs.FactsCalls.{Unchanged, AnswersOf, ShutUpTo}
use Rattle.map_facts.proofs.Making.TablesBegin.{first_table_facts, table_after_facts}
use Rattle.map_rule.proofs.Keys.TriesSeen.{on_is}
use Rattle.map_rule.proofs.Keys.ClassesSeen.{absent_rootless}
use Rattle.map_rule.proofs.Keys.ClassesBeyond.{none_at_root, none_behind, absent_behind}
use Rattle.map_facts.proofs.Calls.CallsOn.{Seeking, Comes, goes, answers_so}
use Rattle.map_facts.proofs.Calls.Asking.{first_len, missing_asks}

module _ {K V Q : Type 0} (same : K → K → Bool) (hash : K → ℕ) (asks : Q → K → Bool) (caller : ℕ) (setting : Setting) (keys : K → Bool)
    (lawful : IsLawful same (spot_of hash))
    (w : World (Node K V)) (c : Chart K) (blocks : Blocks) (map : IsMap same hash setting.mode setting.root w.memory c blocks) (p : KeyCall K V Q)
    (s : Seeking same hash asks caller setting keys w c blocks p) where
  -- a table is entered
  pub enters : (helped : Bool) (table : Table) (t : ℕ) → IsTable c blocks table t → NoneBefore same hash (is_incremental setting.mode) c keys t 0
      → (is_incremental setting.mode ≡ false → t ≡ c.first) → Comes same hash asks caller setting keys w c blocks (entering (record p { helped = helped }) table)
  enters helped table t entered none root =
      goes same hash asks caller setting keys w c blocks p s (trial_on p.trial table p.hash) helped at.Probes (λ answer h. h)
      (s.own, (t, 0, on_is c blocks p.hash t p.trial table entered (map.shows.sized t entered.made), none, root))

  pub enters_root : (table : Table) → IsTable c blocks table c.first → Comes same hash asks caller setting keys w c blocks (entering p table)
  enters_root table entered = enters p.helped table c.first entered (none_at_root same hash lawful keys (is_incremental setting.mode) c map.rule) (λ e. refl)

  -- there is no table
  pub no_table : c.past ≤ c.first → Comes same hash asks caller setting keys w c blocks (tableless p.missing p)
  no_table none = by p.missing refl
    where
      by : (m : Missing) → p.missing ≡ m → Comes same hash asks caller setting keys w c blocks (tableless m p)
      by missing.Asks e =
          missing_asks same hash asks caller setting keys w c blocks p s e gaps.NoTable tt (λ last. absurd last)
          (absent_rootless same hash lawful keys p.hash s.class (is_incremental setting.mode) c map.rule none)
      by missing.Answers e =
          answers_so same hash asks caller setting keys w c blocks p s answers.Absent (absent_rootless same hash lawful keys p.hash s.class (is_incremental setting.mode) c map.rule none)
      by missing.Puts e =
          subst (λ (x : Setting). Comes same hash asks caller setting keys w c blocks (going p (at.Firsts (first_table x FIRST_LEN)))) (sym s.setting_is)
          (goes same hash asks caller setting keys w c blocks p s p.trial p.helped (at.Firsts (first_table setting FIRST_LEN)) (λ answer h. h)
          (s.own, (λ none. absurd (cc (none, e))), first_table_facts w caller setting c blocks FIRST_LEN first_len))

  module _ (t : ℕ) (entered : IsTable c blocks p.trial.table t) (shut : ShutUpTo same hash asks w caller setting c blocks keys Unchanged t) where
    shut_in : (b : Bool) → is_incremental setting.mode ≡ b → cond b ((k : K) → keys k ≡ true → ShutBefore same (spot_of hash) true c (suc t) k) (t ≡ c.first)
    shut_in b e = subst (λ (x : Bool). cond x ((k : K) → keys k ≡ true → ShutBefore same (spot_of hash) true c (suc t) k) (t ≡ c.first)) e shut

    mode_is : (b : Bool) → is_incremental p.setting.mode ≡ b → is_incremental setting.mode ≡ b
    mode_is b e = ap (λ (x : Setting). is_incremental x.mode) (sym s.setting_is) ∙ e

    -- it is the last one
    pub makes_next : IsPowerOfTwo setting.initial → Comes same hash asks caller setting keys w c blocks (following_made p)
    makes_next power =
        subst (λ (x : Setting). Comes same hash asks caller setting keys w c blocks (going (record p { trial = found_full p.trial }) (at.Allocs (table_after x p.trial.table (full_for p.trial)))))
        (sym s.setting_is)
        (goes same hash asks caller setting keys w c blocks p s (found_full p.trial) p.helped (at.Allocs (table_after setting p.trial.table (full_for p.trial))) (λ answer h. h)
        (s.own, t, (entered, shut), table_after_facts w caller setting c blocks p.trial.table t entered (free (is_incremental setting.mode) refl) (map.shows.sized t entered.made) power (full_for p.trial)))
      where
        free : (b : Bool) → is_incremental setting.mode ≡ b → cond (is_incremental setting.mode) (Unit {0}) (c.first < t → c.status t ≡ ABORTED)
        free true e = subst (λ (x : Bool). cond x (Unit {0}) (c.first < t → c.status t ≡ ABORTED)) (sym e) tt
        free false e = subst (λ (x : Bool). cond x (Unit {0}) (c.first < t → c.status t ≡ ABORTED)) (sym e) (λ l. let root = shut_in false e in absurd (omega (arith, root)))

    pub no_next : IsPowerOfTwo setting.initial → c.past ≤ suc t → Comes same hash asks caller setting keys w c blocks (at_last p.missing p)
    no_next power last = by p.missing refl
      where
        absent : is_incremental p.setting.mode ≡ true → AnswersOf same hash asks w caller setting c blocks keys Unchanged answers.Absent
        absent e =
            absent_behind same hash lawful keys p.hash s.class c true refl (subst (λ (x : Bool). Rule same (spot_of hash) x c) (mode_is true e) map.rule) (suc t) last (shut_in true (mode_is true e))

        by_mode : (b : Bool) → is_incremental p.setting.mode ≡ b → Comes same hash asks caller setting keys w c blocks (if b then answering p answers.Absent else following_made p)
        by_mode true e = answers_so same hash asks caller setting keys w c blocks p s answers.Absent (absent e)
        by_mode false e = makes_next power

        asks_by : (b : Bool) → is_incremental p.setting.mode ≡ b → p.missing ≡ missing.Asks
            → Comes same hash asks caller setting keys w c blocks (if b then asking_at gaps.Last p else following_made p)
        asks_by true e is =
            missing_asks same hash asks caller setting keys w c blocks p s is gaps.Last (mode_is true e, t, (entered, shut)) (λ last. makes_next power) (absent e)
        asks_by false e is = makes_next power

        by : (m : Missing) → p.missing ≡ m → Comes same hash asks caller setting keys w c blocks (at_last m p)
        by missing.Answers e = by_mode (is_incremental p.setting.mode) refl
        by missing.Puts e = makes_next power
        by missing.Asks e = asks_by (is_incremental p.setting.mode) refl e

    -- the next one is there
    pub goes_on : (table : Table) → IsTable c blocks table (suc t) → Comes same hash asks caller setting keys w c blocks (continued_in p table)
    goes_on table next = by_mode (is_incremental p.setting.mode) refl
      where
        idle_in : (b : Bool) → is_incremental setting.mode ≡ b
            → cond b (HasDone same hash w caller setting c blocks 0 × ClaimsNone same hash w caller setting c blocks) (HasNoShares same hash w caller setting c blocks)
        idle_in b e =
            subst (λ (x : Bool). cond x (HasDone same hash w caller setting c blocks 0 × ClaimsNone same hash w caller setting c blocks) (HasNoShares same hash w caller setting c blocks)) e s.idle

        helps : (b : Bool) → p.helped ≡ b → is_incremental setting.mode ≡ true
            → Comes same hash asks caller setting keys w c blocks (if b then entering p table else going (record p { helped = true }) (at.Helps (helping p.setting) table))
        helps true e inc =
            enters p.helped table (suc t) next
            (subst (λ (x : Bool). NoneBefore same hash x c keys (suc t) 0) (sym inc) (none_behind same hash lawful keys true c (suc t) refl (shut_in true inc))) (λ e. absurd (cc (e, inc)))
        helps false e inc =
            subst (λ (x : Setting). Comes same hash asks caller setting keys w c blocks (going (record p { helped = true }) (at.Helps (helping x) table))) (sym s.setting_is)
            (goes same hash asks caller setting keys w c blocks p s p.trial true (at.Helps (helping setting) table) (λ answer h. h) (
              s.own,
              inc,
              refl,
              t,
              next,
              shut,
              record { setting_is = refl; point = ((let made = entered.made in omega (arith, made)), refl, (idle_in true inc).0, (idle_in true inc).1, refl) },
            ))

        copies : is_incremental setting.mode ≡ false → Comes same hash asks caller setting keys w c blocks (going p (at.Copies (copying_all p.setting p.trial.table table)))
        copies alone =
            subst (λ (x : Setting). Comes same hash asks caller setting keys w c blocks (going p (at.Copies (copying_all x p.trial.table table)))) (sym s.setting_is)
            (goes same hash asks caller setting keys w c blocks p s p.trial p.helped (at.Copies (copying_all setting p.trial.table table)) (λ answer h. h)
            (s.own, alone, begun (is_incremental setting.mode) alone))
          where
            at_root : IsTable c blocks p.trial.table c.first
            at_root = subst (λ (x : ℕ). IsTable c blocks p.trial.table x) (shut_in false alone) entered

            begun : (b : Bool) → b ≡ false → CopierFactsBlocking same hash w caller setting c blocks
                (if b then record (resting setting true p.trial.table table copying.Marks) { end = p.trial.table.len } else resting setting true p.trial.table table copying.Asks)
            begun true e = absurd (cc)
            begun false e = record {
              setting_is = refl;
              point = (suc t, ((at_root, (let root = shut_in false alone in omega (arith, root)), next, refl), refl, idle_in false alone));
            }

        by_mode : (b : Bool) → is_incremental p.setting.mode ≡ b
            → Comes same hash asks caller setting keys w c blocks
            (if b then (if p.helped then entering p table else going (record p { helped = true }) (at.Helps (helping p.setting) table))
            else going p (at.Copies (copying_all p.setting p.trial.table table)))
        by_mode true e = helps p.helped refl (mode_is true e)
        by_mode false e = copies (mode_is false e)
