-- What a sweep has done to the pairs of the map since it began, over each thing that may happen to it.
use Rattle.std.specs.Prelude.{◌≡◌, ◌≢◌, ℕ, ◌+◌, ◌<◌, ◌≤◌, ◌⊎◌, Bool, true, false, cond, eqb, List, ◌∷◌, Option}
use Rattle.std.proofs.Common.{inl, inr, refl, ap, sym, subst, ◌∙◌, arith}
use Rattle.std.proofs.lemmas.Bool.{cases_eq, eq-eqb, ne_eqb}
use Rattle.seize_words.specs.OneMemory.Mem.{Mem}
use Rattle.map_tables.specs.declared.node.Node.{Node}
use Rattle.papaya_raw.specs.Given.ReservesDeclared.sweep.Purpose.TheVariants.{Walks, Retains}
use Rattle.papaya_raw.specs.Given.ReservesDeclared.sweep.Sweep.{Sweep}
use Rattle.papaya_raw.specs.Given.ReservesDeclared.sweep.Sweeping.{Sweeping}
use Rattle.papaya_raw.specs.Given.ReservesDeclared.sweep.Sweeping.TheVariants as at
use Rattle.map_measures.specs.Given.RuleChart.{Chart, put}
use Rattle.map_measures.specs.Given.RuleWords.{Blocks}
use Rattle.map_measures.specs.Given.LateCovers.{times}
use Rattle.owner_facts.specs.Given.CallersOverAll.{Verdict, verdict, CallOverAll}
use Rattle.owner_whole.specs.Whole.Contents.{KeepsPairs}
use Rattle.owner_whole.specs.Whole.LoneSweeps.{IsBefore, goes_once}
use Rattle.owner_whole.specs.Whole.SweptPairs.{about_to_go, gone_since, HasSwept}
use Rattle.owner_whole.proofs.Whole.Contents.Runs.{keeps_on}

-- it is about to remove nothing
pub about_none : (stage : Sweeping) → ((word : ℕ) → stage ≢ at.Tries word) → (told : Option Verdict) (n : ℕ) → about_to_go stage told n ≡ 0
about_none (at.Tries word) other told n = absurd (other word refl)
about_none at.Reads other told n = refl
about_none at.Follows other told n = refl
about_none (at.Copies copier) other told n = refl
about_none at.Ready other told n = refl
about_none at.Words other told n = refl
about_none (at.Asks word) other told n = refl
about_none (at.Counts removed) other told n = refl
about_none (at.Disposes dispose) other told n = refl
about_none at.Over other told n = refl
about_none (at.Refused fault) other told n = refl

pub tries_cases : (stage : Sweeping) → ((word : ℕ) × (stage ≡ at.Tries word)) ⊎ ((word : ℕ) → stage ≢ at.Tries word)
tries_cases (at.Tries word) = inl (word, refl)
tries_cases at.Reads = inr (λ word e. cc e)
tries_cases at.Follows = inr (λ word e. cc e)
tries_cases (at.Copies copier) = inr (λ word e. cc e)
tries_cases at.Ready = inr (λ word e. cc e)
tries_cases at.Words = inr (λ word e. cc e)
tries_cases (at.Asks word) = inr (λ x e. cc e)
tries_cases (at.Counts removed) = inr (λ word e. cc e)
tries_cases (at.Disposes dispose) = inr (λ word e. cc e)
tries_cases at.Over = inr (λ word e. cc e)
tries_cases (at.Refused fault) = inr (λ word e. cc e)

-- each pair was told about as often as it was told to be kept, and once more if it has left, or is about to
abbrev pub Counts : {K : Type 0} → Chart K → Chart K → List ℕ → CallOverAll → Type 0
Counts c0 c asked o = (n : ℕ) → times n asked ≡ times n o.done + gone_since c0 c n + about_to_go o.sweep.stands o.told n

module _ {K V : Type 0} (b : Bool) where
  -- from one state of a sweep, and of the map, to the next one
  pub record Onward (m : Mem (Node K V)) (c : Chart K) (blocks : Blocks) (asked : List ℕ) (o : CallOverAll) (m2 : Mem (Node K V)) (c2 : Chart K) (blocks2 : Blocks) (asked2 : List ℕ) (o2 : CallOverAll) : Type 0 where
    pub keeps : KeepsPairs m c blocks m2 c2 blocks2
    pub stored : c2.stored ≡ c.stored
    pub still : (i n : ℕ) → i ≤ c2.now → c2.current n ≡ true → ((i ≤ c.now) × (c2.was i n ≡ c.was i n) × (c.current n ≡ true)) ⊎ (c2.was i n ≡ true)
    pub began : o2.began ≡ o.began
    pub purpose : o2.sweep.purpose ≡ o.sweep.purpose
    pub from : o.began ≤ o.entered → o2.began ≤ o2.entered
    pub walks : o.sweep.purpose ≡ Walks → c2.current ≡ c.current
    pub before : goes_once b o.sweep.purpose ≡ true → IsBefore o2.sweep.stands → IsBefore o.sweep.stands × (c2.current ≡ c.current)
    pub done : ((n : ℕ) → 0 < times n o.done → c.current n ≡ true) → (n : ℕ) → 0 < times n o2.done → c2.current n ≡ true
    pub asks : (c0 : Chart K) → ((n : ℕ) → c.current n ≡ true → c0.current n ≡ true) → goes_once b o.sweep.purpose ≡ true → o.sweep.purpose ≡ Retains → Counts c0 c asked o → Counts c0 c2 asked2 o2

  module _ (m0 : Mem (Node K V)) (c0 : Chart K) (blocks0 : Blocks) where
    pub swept_on : (m : Mem (Node K V)) (c : Chart K) (blocks : Blocks) (asked : List ℕ) (o : CallOverAll) (m2 : Mem (Node K V)) (c2 : Chart K) (blocks2 : Blocks) (asked2 : List ℕ) (o2 : CallOverAll)
        → ((n : ℕ) → c.current n ≡ true → n < c.stored) → Onward m c blocks asked o m2 c2 blocks2 asked2 o2 → HasSwept b m0 c0 blocks0 asked o m c blocks → HasSwept b m0 c0 blocks0 asked2 o2 m2 c2 blocks2
    swept_on m c blocks asked o m2 c2 blocks2 asked2 o2 low on past = record {
      keeps = keeps_on m0 m m2 c0 c c2 blocks0 blocks blocks2 past.keeps on.keeps;
      stored = on.stored ∙ past.stored;
      still = λ i n l h is. elim (on.still i n h is) as (λ _. c2.was i n ≡ true) [
        | inl old ↦ old.1 ∙ past.still i n (let e = on.began in omega (arith, l, e)) old.0 old.2
        | inr new ↦ new
      ];
      from = on.from past.from;
      walks = λ walks. on.walks (sym on.purpose ∙ walks) ∙ past.walks (sym on.purpose ∙ walks);
      before = λ once early. (let x = on.before (once_was once) early in x.1 ∙ past.before (once_was once) x.0);
      done = on.done past.done;
      asks = λ once retains. on.asks c0 (λ n is. past.keeps.were n (let l = low n is in let e = past.stored in omega (arith, l, e)) is) (once_was once) (sym on.purpose ∙ retains) (past.asks (once_was once) (sym on.purpose ∙ retains));
    }
      where
        once_was : goes_once b o2.sweep.purpose ≡ true → goes_once b o.sweep.purpose ≡ true
        once_was once = sym (ap (goes_once b) on.purpose) ∙ once

  -- the map stays as it is, and what the sweep has come to
  pub onward_same : (m m2 : Mem (Node K V)) (c : Chart K) (blocks : Blocks) (asked : List ℕ) (o : CallOverAll) (p2 : Sweep) → KeepsPairs m c blocks m2 c blocks → p2.purpose ≡ o.sweep.purpose
      → (goes_once b o.sweep.purpose ≡ true → IsBefore p2.stands → IsBefore o.sweep.stands) → ((n : ℕ) → about_to_go p2.stands o.told n ≡ about_to_go o.sweep.stands o.told n)
      → Onward m c blocks asked o m2 c blocks asked (record { began = o.began; entered = o.entered; done = o.done; told = o.told; sweep = p2 })
  onward_same m m2 c blocks asked o p2 keeps purpose before about = record {
    keeps = keeps;
    stored = refl;
    still = λ i n h is. inl (h, refl, is);
    began = refl;
    purpose = purpose;
    from = λ l. l;
    walks = λ walks. refl;
    before = λ once early. (before once early, refl);
    done = λ old. old;
    asks = λ c0 there once retains old n. old n ∙ ap (λ (x : ℕ). times n o.done + gone_since c0 c n + x) (sym (about n));
  }

  -- it is told whether to keep a pair
  module _ (m : Mem (Node K V)) (c : Chart K) (blocks : Blocks) (asked : List ℕ) (o : CallOverAll) (word n : ℕ) (is : o.sweep.stands ≡ at.Asks word) (there : c.current n ≡ true) (p2 : Sweep) (purpose : p2.purpose ≡ o.sweep.purpose) where
    keeps_same : KeepsPairs m c blocks m c blocks
    keeps_same = record { stored = omega arith; were = λ x low e. e; values = λ x low e. refl }

    none_yet : (i : ℕ) → about_to_go o.sweep.stands o.told i ≡ 0
    none_yet i = ap (λ (x : Sweeping). about_to_go x o.told i) is

    kept_current : ((i : ℕ) → 0 < times i o.done → c.current i ≡ true) → (i : ℕ) → 0 < times i (n ∷ o.done) → c.current i ≡ true
    kept_current old i l = elim (cases_eq i n) as (λ _. c.current i ≡ true) [
      | inl e ↦ ap c.current e ∙ there
      | inr other ↦ old i (let no : cond (eqb i n) 1 0 ≡ 0 = ap {B = ℕ} (λ (x : Bool). cond x 1 0) (ne_eqb i n other) in omega (arith, l, no))
    ]

    -- to keep it
    pub onward_kept : (goes_once b o.sweep.purpose ≡ true → IsBefore p2.stands → ⊥) → ((word : ℕ) → p2.stands ≢ at.Tries word)
        → Onward m c blocks asked o m c blocks (n ∷ asked) (record { began = o.began; entered = o.entered; done = n ∷ o.done; told = verdict n true; sweep = p2 })
    onward_kept before tries = record {
      keeps = keeps_same;
      stored = refl;
      still = λ i x h here. inl (h, refl, here);
      began = refl;
      purpose = purpose;
      from = λ l. l;
      walks = λ walks. refl;
      before = λ once early. absurd (before once early);
      done = kept_current;
      asks = λ c0 have once retains old i.
          (let e = old i in let was = none_yet i in let now = about_none p2.stands tries (verdict n true) i in
          more (cond (eqb i n) 1 0) (times i asked) (times i o.done) (gone_since c0 c i) (about_to_go o.sweep.stands o.told i) (about_to_go p2.stands (verdict n true) i) e was now);
    }
      where
        more : (x a d g t u : ℕ) → a ≡ d + g + t → t ≡ 0 → u ≡ 0 → x + a ≡ (x + d) + g + u
        more x a d g t u e was now = omega (arith, e, was, now)

    -- to remove it
    pub onward_gone : p2.stands ≡ at.Tries word
        → Onward m c blocks asked o m c blocks (n ∷ asked) (record { began = o.began; entered = o.entered; done = o.done; told = verdict n false; sweep = p2 })
    onward_gone tries = record {
      keeps = keeps_same;
      stored = refl;
      still = λ i x h here. inl (h, refl, here);
      began = refl;
      purpose = purpose;
      from = λ l. l;
      walks = λ walks. refl;
      before = λ once early. absurd (subst IsBefore tries early);
      done = λ old. old;
      asks = λ c0 have once retains old i.
          (let e = old i in let was = none_yet i in let now : about_to_go p2.stands (verdict n false) i ≡ cond (eqb i n) 1 0 = ap (λ (x : Sweeping). about_to_go x (verdict n false) i) tries in
          more (cond (eqb i n) 1 0) (times i asked) (times i o.done) (gone_since c0 c i) (about_to_go o.sweep.stands o.told i) (about_to_go p2.stands (verdict n false) i) e was now);
    }
      where
        more : (x a d g t u : ℕ) → a ≡ d + g + t → t ≡ 0 → u ≡ x → x + a ≡ d + g + u
        more x a d g t u e was now = omega (arith, e, was, now)

-- a pair that a retaining was told to remove has gone
module _ {K : Type 0} (c0 c c2 : Chart K) (n : ℕ) (there : c.current n ≡ true) (had : c0.current n ≡ true) (gone : c2.current ≡ put c.current n false) where
  gone_here : gone_since c0 c2 n ≡ 1
  gone_here =
      ap {B = ℕ} (λ (x : Bool). cond x (cond (c2.current n) 0 1) 0) had ∙ ap {B = ℕ} (λ (x : Bool). cond x 0 1) (ap (λ (f : ℕ → Bool). f n) gone ∙ ap (λ (x : Bool). cond x false (c.current n)) (eq-eqb n n refl))

  there_still : gone_since c0 c n ≡ 0
  there_still = ap {B = ℕ} (λ (x : Bool). cond x (cond (c.current n) 0 1) 0) had ∙ ap {B = ℕ} (λ (x : Bool). cond x 0 1) there

  gone_other : (i : ℕ) → i ≢ n → gone_since c0 c2 i ≡ gone_since c0 c i
  gone_other i other = ap {B = ℕ} (λ (x : Bool). cond (c0.current i) (cond x 0 1) 0) (ap (λ (f : ℕ → Bool). f i) gone ∙ ap (λ (x : Bool). cond x false (c.current i)) (ne_eqb i n other))

  pub counts_gone : (a d : ℕ → ℕ) → ((i : ℕ) → a i ≡ d i + gone_since c0 c i + cond (eqb i n) 1 0) → (i : ℕ) → a i ≡ d i + gone_since c0 c2 i + 0
  counts_gone a d old i = elim (cases_eq i n) as (λ _. a i ≡ d i + gone_since c0 c2 i + 0) [
    | inl e ↦ subst (λ (x : ℕ). a x ≡ d x + gone_since c0 c2 x + 0) (sym e)
        (let was = old n in let one : cond (eqb n n) 1 0 ≡ 1 = ap {B = ℕ} (λ (x : Bool). cond x 1 0) (eq-eqb n n refl) in let now = gone_here in let before = there_still in
        joins (a n) (d n) (gone_since c0 c n) (gone_since c0 c2 n) (cond (eqb n n) 1 0) was one now before)
    | inr other ↦ (let was = old i in let none : cond (eqb i n) 1 0 ≡ 0 = ap {B = ℕ} (λ (x : Bool). cond x 1 0) (ne_eqb i n other) in let same = gone_other i other in
        stays (a i) (d i) (gone_since c0 c i) (gone_since c0 c2 i) (cond (eqb i n) 1 0) was none same)
  ]
    where
      joins : (a d g h t : ℕ) → a ≡ d + g + t → t ≡ 1 → h ≡ 1 → g ≡ 0 → a ≡ d + h + 0
      joins a d g h t was one now before = omega (arith, was, one, now, before)

      stays : (a d g h t : ℕ) → a ≡ d + g + t → t ≡ 0 → h ≡ g → a ≡ d + h + 0
      stays a d g h t was none same = omega (arith, was, none, same)
