-- A call on one key that waits at its try has come to the pair that its map has of its keys, and that is being copied out of the root.
use Rattle.std.specs.Prelude.{◌≡◌, ℕ, Bool, true, Some}
use Rattle.std.proofs.Common.{inl, inr, refl, ap, sym, subst, ◌∙◌, arith}
use Rattle.std.proofs.lemmas.Bool.{cases_lt}
use Rattle.seize_words.specs.OneMemory.Mem.{Mem, Took, value_at}
use Rattle.seize_words.specs.OneMemory.Plan.{Steps}
use Rattle.seize.specs.World.{World}
use Rattle.map_tables.specs.Chunks.{is_incremental}
use Rattle.map_tables.specs.Finding.{finding}
use Rattle.map_tables.specs.declared.finding.Finding.{Finding}
use Rattle.map_tables.specs.declared.finding.Finding.TheVariants as is
use Rattle.map_tables.specs.declared.node.Node.{Node}
use Rattle.map_tables.specs.declared.setting.Setting.{Setting}
use Rattle.papaya_raw.specs.Call.{call_plan, plan_at, probes}
use Rattle.papaya_raw.specs.CallPoints.{aim_of, after_finding, told}
use Rattle.papaya_raw.specs.declared.machines.answer.Called.{Called}
use Rattle.papaya_raw.specs.declared.machines.answer.Called.TheVariants as called
use Rattle.papaya_raw.specs.declared.machines.call.KeyCall.{KeyCall}
use Rattle.papaya_raw.specs.declared.machines.call.Calling.{Calling}
use Rattle.papaya_raw.specs.declared.machines.call.Calling.TheVariants as at
use Rattle.map_measures.specs.Given.RuleChart.{Chart, Place, Copying, Holds}
use Rattle.map_measures.specs.Given.RuleInWorld.{IsMapIn}
use Rattle.map_measures.specs.Given.RuleMaps.{spot_at, spot_of, IsTrial}
use Rattle.map_measures.specs.Given.RuleRule.{Rule}
use Rattle.map_measures.specs.Given.RuleWords.{Blocks, byte_of, place_word}
use Rattle.map_measures.proofs.Given.RuleKeys.TriesSeen.{spot_inside}
use Rattle.map_measures.proofs.Given.RuleWords.PlacesRead.{place_keyed}
use Rattle.map_measures.proofs.Given.RuleWords.PlacesShown.{are_stored, shown_block, shown_byte}
use Rattle.map_measures.proofs.Given.RuleWords.WordsSeen.{Tells, Says, SaysCopying, says}
use Rattle.owner_facts.specs.Given.PointsFactsCalls.{Change, Unchanged, IsCopying, Seeks, CallingFacts, CallFacts}
use Rattle.owner_facts.specs.Given.PointsSteps.{AreLawful}
use Rattle.owner_facts.proofs.Given.PointsCalls.CallsOn.{Seeking}
use Rattle.owner_facts.proofs.Given.PointsCalls.Probes.{probes_tell}
use Rattle.map_measures.proofs.Waits.CallPlans.{Continues, told_goes}

module _ {K V Q : Type 0} where
  -- what goes on does not wait
  waits_not : (y : KeyCall K V Q × Called (Node K V)) → Continues y → y.1 ≡ called.Waits → ⊥
  waits_not (q, called.Goes) on e = cc e
  waits_not (q, called.Waits) on e = on
  waits_not (q, called.Gave value) on e = cc e
  waits_not (q, called.Unstored value) on e = cc e
  waits_not (q, called.Asks asked) on e = cc e
  waits_not (q, called.Done answer) on e = cc e
  waits_not (q, called.Refused fault) on e = cc e

  -- it waits by a word alone that is being copied
  told_waits : (p : KeyCall K V Q) (loaded : Bool) (word : ℕ) (x : Finding) → (after_finding {V = V} loaded p word x).1 ≡ called.Waits → x ≡ is.Copying
  told_waits p loaded word is.Copying e = refl
  told_waits p loaded word is.Free e = absurd (waits_not (after_finding {V = V} loaded p word is.Free) (told_goes loaded p word is.Free (λ l f. cc f)) e)
  told_waits p loaded word is.Passed e = absurd (waits_not (after_finding {V = V} loaded p word is.Passed) (told_goes loaded p word is.Passed (λ l f. cc f)) e)
  told_waits p loaded word is.Moved e = absurd (waits_not (after_finding {V = V} loaded p word is.Moved) (told_goes loaded p word is.Moved (λ l f. cc f)) e)
  told_waits p loaded word is.There e = absurd (waits_not (after_finding {V = V} loaded p word is.There) (told_goes loaded p word is.There (λ l f. cc f)) e)

module _ {K V Q : Type 0} (same : K → K → Bool) (hash : K → ℕ) (asks : Q → K → Bool) (caller : ℕ) (setting : Setting) (keys : K → Bool) (lawful : AreLawful same hash)
    (w : World (Node K V)) (c : Chart K) (blocks : Blocks) (map : IsMapIn same hash setting w c blocks) (p : KeyCall K V Q) (change : Change)
    (f : CallFacts same hash asks w caller setting c blocks keys change p) (here : p.stands ≡ at.Probes) where
  unchanged : change ≡ Unchanged
  unchanged = f.unchanged (subst (λ (x : Calling). Seeks same hash asks w caller setting c blocks keys change x) (sym here) tt)

  fresh : CallFacts same hash asks w caller setting c blocks keys Unchanged p
  fresh = subst (λ (x : Change). CallFacts same hash asks w caller setting c blocks keys x p) unchanged f

  point : CallingFacts same hash asks w caller setting c blocks keys Unchanged p at.Probes
  point = subst (λ (x : Calling). CallingFacts same hash asks w caller setting c blocks keys Unchanged p x) here fresh.point

  seeking : Seeking same hash asks caller setting keys w c blocks p
  seeking = record {
    setting_is = fresh.setting_is;
    may = fresh.may;
    code = fresh.code;
    class = fresh.class;
    idle = fresh.idle (λ copying. subst IsCopying here copying);
    own = point.0;
  }

  -- the pair that its map has of its keys, at this place of the root
  abbrev pub ItsPair : Type 0
  ItsPair = (n : ℕ) × (borrowed : Bool) × (c.place c.first p.trial.probe.i ≡ Holds n Copying borrowed) × (c.current n ≡ true) × (k : K) × (c.key n ≡ Some k) × (keys k ≡ true)

  module _ (t j : ℕ) (trial : IsTrial c blocks p.trial p.hash t j) where
    abbrev spot : ℕ
    spot = spot_at (c.len t) p.hash j

    abbrev place : Place
    place = c.place t (spot_at (c.len t) p.hash j)

    abbrev word : ℕ
    word = place_word hash c blocks (c.place t (spot_at (c.len t) p.hash j))

    abbrev Copied : Type 0
    Copied = SaysCopying keys c.key place (is_incremental setting.mode) (aim_of p.missing)

    says_so : (flag : Bool) → Tells keys c.key place flag → Says keys c.key place (is_incremental setting.mode) (aim_of p.missing) (finding setting.mode (aim_of p.missing) word flag)
    says_so flag tells =
        says keys c.key blocks.pair (λ n. byte_of hash (c.key n)) setting.mode (aim_of p.missing) place flag
        (shown_block hash w.memory c blocks setting.root map.map.shows (are_stored same (spot_of hash) (is_incremental setting.mode) c map.map.rule.common) t spot trial.table.made trial.table.known)
        (shown_byte hash lawful.fits c.key place)
        (place_keyed same hash lawful.fits w.memory c blocks setting.root map.map.shows (are_stored same (spot_of hash) (is_incremental setting.mode) c map.map.rule.common) t spot
        trial.table.made trial.table.known keys)
        tells

    abbrev Told : KeyCall K V Q × Called (Node K V) → Type 0
    Told end = end.1 ≡ called.Waits → Copied

    tells_so : (loaded flag : Bool) → Tells keys c.key place flag → Told (told loaded p word flag)
    tells_so loaded flag tells = λ waits.
        let copying : finding p.setting.mode (aim_of p.missing) word flag ≡ is.Copying = told_waits p loaded word (finding p.setting.mode (aim_of p.missing) word flag) waits in
        let found : finding setting.mode (aim_of p.missing) word flag ≡ is.Copying =
        ap (λ (x : Setting). finding x.mode (aim_of p.missing) word flag) (sym fresh.setting_is) ∙ copying in
        subst (λ (x : Finding). Says keys c.key place (is_incremental setting.mode) (aim_of p.missing) x) found (says_so flag tells)

    copied : (m2 : Mem (Node K V)) (q : KeyCall K V Q) → Steps Took value_at w.memory (probes asks same p) m2 (q, called.Waits) → Copied
    copied m2 q st = (probes_tell same hash asks caller setting keys lawful.fits w c blocks map p seeking t j trial Told tells_so m2 (q, called.Waits) st).1 refl

    -- what is being copied stands in the root
    its_pair : Copied → ItsPair
    its_pair (mode, aim, n, borrowed, (stands, k, has, asked)) = (n, borrowed, stands_there, current, k, has, asked)
      where
        rule : Rule same (spot_of hash) true c
        rule = subst (λ (b : Bool). Rule same (spot_of hash) b c) mode map.map.rule

        root : t ≡ c.first
        root = elim (cases_lt t c.first) as (λ _. t ≡ c.first) [
          | inl before ↦ absurd (let settled = rule.in_mode.settled t spot before (spot_inside (c.len t) p.hash j (rule.common.lens t trial.table.made).0) in cc (settled, stands))
          | inr from ↦ elim (cases_lt c.first t) as (λ _. t ≡ c.first) [
            | inl behind ↦ absurd (let bare = rule.common.unmarked t spot behind in cc (bare, stands))
            | inr upto ↦ omega (arith, from, upto)
          ]
        ]

        stands_there : c.place c.first p.trial.probe.i ≡ Holds n Copying borrowed
        stands_there = ap (λ (x : ℕ). c.place x p.trial.probe.i) (sym root) ∙ ap (c.place t) trial.place ∙ stands

        current : c.current n ≡ true
        current = rule.common.is_current t spot n Copying borrowed stands (λ e. cc e) (omega (arith, root))

  pub waits_for_its_pair : (m2 : Mem (Node K V)) (q : KeyCall K V Q) → Steps Took value_at w.memory (call_plan asks same hash p) m2 (q, called.Waits) → ItsPair
  waits_for_its_pair m2 q st =
      let try = point.1 in
      its_pair try.0 try.1 try.2 (copied try.0 try.1 try.2 m2 q (subst (λ (x : Calling). Steps Took value_at w.memory (plan_at asks same hash p x) m2 (q, called.Waits)) here st))
