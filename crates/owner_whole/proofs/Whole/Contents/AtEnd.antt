-- What a whole call on one key answers, by the list of the map's pairs at its beginning and at its end.
use Rattle.std.specs.Prelude.{◌≡◌, ℕ, Bool, true, false, List, [], ◌∷◌, ◌++◌}
use Rattle.std.proofs.Common.{refl, ap, subst, ◌∙◌, inl, inr}
use Rattle.seize_words.specs.OneMemory.Mem.{value_at}
use Rattle.seize.specs.World.{World}
use Rattle.map_tables.specs.declared.node.Node.{Node}
use Rattle.map_tables.specs.declared.setting.Setting.{Setting}
use Rattle.papaya_raw.specs.declared.machines.answer.KeyAnswer.{KeyAnswer}
use Rattle.papaya_raw.specs.declared.machines.answer.KeyAnswer.TheVariants as answers
use Rattle.map_measures.specs.Given.RuleChart.{Still, Chart, put}
use Rattle.map_measures.specs.Given.RuleWords.{Blocks}
use Rattle.map_measures.specs.Given.RuleInWorld.{IsMapIn}
use Rattle.owner_facts.specs.Given.PointsFactsCalls.{Change, Unchanged, Stored, Replaced, Removed, AnswersChange}
use Rattle.owner_facts.specs.Given.PointsSteps.{AreLawful}
use Rattle.map_measures.specs.Given.CallersPairs.{StoresGiven}
use Rattle.map_measures.specs.Given.CallersSince.{SoSince}
use Rattle.owner_facts.specs.Given.CallersTogether.{CallOnKey, in_slot}
use Rattle.owner_whole.specs.Whole.Contents.{without, AreContents, HasRun, IsOfPairs}
use Rattle.owner_whole.specs.Whole.AtEnd.{AnswersSo, AnswersTellThePairs}
use Rattle.owner_whole.proofs.Whole.Contents.Answers.{answers_of_pairs}
use Rattle.owner_whole.proofs.Whole.Contents.Follow.{contents_follow}
use Rattle.owner_facts.proofs.Alone.Shards.PairsChanged.{put_here as put_there}

module _ {K V Q : Type 0} (same : K → K → Bool) (hash : K → ℕ) (asks : Q → K → Bool) (setting : Setting) (slot : ℕ → ℕ) (lawful : AreLawful same hash)
    (w0 : World (Node K V)) (c0 : Chart K) (blocks0 : Blocks) (map0 : IsMapIn same hash setting w0 c0 blocks0)
    (w : World (Node K V)) (c : Chart K) (blocks seen : Blocks) (map : IsMapIn same hash setting w c blocks) (sees : (o : ℕ) → c.current o ≡ true → seen.pair o ≡ blocks.pair o)
    (u : CallOnKey K V Q) (began : u.began ≡ c0.now) (k : K) (keys_are : (j : K) → u.keys j ≡ same k j) (xs : List (K × V)) (are : AreContents w0.memory c0 blocks0 xs) where
  abbrev Run : Change → Type 0
  Run change = HasRun same hash setting u.keys w0.memory c0 blocks0 change w.memory c blocks

  abbrev Ended : KeyAnswer → Type 0
  Ended answer = (ys : List (K × V)) × AreContents w.memory c blocks ys × AnswersSo same hash w0.memory blocks0 w.memory c seen u.pair k xs ys answer

  looked : (answer : KeyAnswer) → AreContents w.memory c blocks xs → IsOfPairs same hash w.memory c seen k xs answer → Ended answer
  looked (answers.Found word) now (n, phase, borrowed, is, j, v, block, there) = (xs, now, (refl, n, j, v, there, (phase, borrowed, is, block)))
  looked answers.Absent now none = (xs, now, (refl, none))
  looked (answers.Stored word) now h = absurd h
  looked (answers.Replaced old new) now h = absurd h
  looked (answers.Removed word) now h = absurd h

  pub unchanged : Run Unchanged → (answer : KeyAnswer) → SoSince hash c seen u.keys u.began answer → Ended answer
  unchanged run answer so =
      let now = contents_follow V same hash lawful setting w0 w c0 c blocks0 blocks map0 map u.keys k keys_are Unchanged run xs are in
      looked answer now
      (answers_of_pairs V same hash lawful setting w c blocks seen map sees u.keys k keys_are w0.memory c0 blocks0 run answer
      (subst (λ (m : ℕ). SoSince hash c seen u.keys m answer) began so) xs now)

  pub changed : (change : Change) → Run change → (answer : KeyAnswer) → AnswersChange same hash asks w 0 (in_slot setting (slot 0)) c seen u.keys change change answer
      → StoresGiven hash w.memory c seen u.pair change → Ended answer
  changed (Stored n) run (answers.Stored word) tells stores =
      let then = contents_follow V same hash lawful setting w0 w c0 c blocks0 blocks map0 map u.keys k keys_are (Stored n) run xs are in
      let here : c.current n ≡ true = ap (λ (f : ℕ → Bool). f n) run.changed.changes.2 ∙ put_there c0.current n true in
      let block = ap (value_at w.memory) (sees n here) ∙ then.3 in
      (xs ++ ((then.1, then.2) ∷ []), then.4, (then.0, n, then.1, then.2, refl, (Still, false, tells.1, block), stores))
  changed (Replaced o n) run (answers.Replaced old new) tells stores =
      let then = contents_follow V same hash lawful setting w0 w c0 c blocks0 blocks map0 map u.keys k keys_are (Replaced o n) run xs are in
      let here : c.current n ≡ true = ap (λ (f : ℕ → Bool). f n) run.changed.changes.2 ∙ put_there (put c0.current o false) n true in
      let block = ap (value_at w.memory) (sees n here) ∙ then.3 in
      (without same k xs ++ ((then.1, then.2) ∷ []), then.4, (o, then.0, n, then.1, then.2, refl, (Still, false, tells.4, block), (tells.2, tells.3), stores))
  changed (Removed o) run (answers.Removed word) tells stores =
      let then = contents_follow V same hash lawful setting w0 w c0 c blocks0 blocks map0 map u.keys k keys_are (Removed o) run xs are in
      (without same k xs, then.1, (o, then.0, refl, (tells.1, tells.2), stores))
  changed Unchanged run (answers.Found word) tells stores = absurd tells
  changed Unchanged run answers.Absent tells stores = absurd tells
  changed Unchanged run (answers.Stored word) tells stores = absurd tells
  changed Unchanged run (answers.Replaced old new) tells stores = absurd tells
  changed Unchanged run (answers.Removed word) tells stores = absurd tells
  changed (Stored n) run (answers.Found word) tells stores = absurd tells
  changed (Stored n) run answers.Absent tells stores = absurd tells
  changed (Stored n) run (answers.Replaced old new) tells stores = absurd tells
  changed (Stored n) run (answers.Removed word) tells stores = absurd tells
  changed (Replaced o n) run (answers.Found word) tells stores = absurd tells
  changed (Replaced o n) run answers.Absent tells stores = absurd tells
  changed (Replaced o n) run (answers.Stored word) tells stores = absurd tells
  changed (Replaced o n) run (answers.Removed word) tells stores = absurd tells
  changed (Removed o) run (answers.Found word) tells stores = absurd tells
  changed (Removed o) run answers.Absent tells stores = absurd tells
  changed (Removed o) run (answers.Stored word) tells stores = absurd tells
  changed (Removed o) run (answers.Replaced old new) tells stores = absurd tells

pub answers_tell_the_pairs : {K V Q : Type 0} (same : K → K → Bool) (hash : K → ℕ) (asks : Q → K → Bool) (setting : Setting) (slot : ℕ → ℕ) → AnswersTellThePairs V same hash asks setting slot
answers_tell_the_pairs same hash asks setting slot lawful w0 c0 blocks0 map0 w c blocks seen map sees u began k keys_are run answer (fits, inl (none, so, leaves)) xs are =
    unchanged same hash asks setting slot lawful w0 c0 blocks0 map0 w c blocks seen map sees u began k keys_are xs are
    (subst (λ (x : Change). HasRun same hash setting u.keys w0.memory c0 blocks0 x w.memory c blocks) none run) answer so
answers_tell_the_pairs same hash asks setting slot lawful w0 c0 blocks0 map0 w c blocks seen map sees u began k keys_are run answer (fits, inr (made, tells, stores)) xs are =
    changed same hash asks setting slot lawful w0 c0 blocks0 map0 w c blocks seen map sees u began k keys_are xs are u.change run answer tells stores
