-- How a conversation goes on, and how it ends.
use Rattle.std.proofs.Common.{◌≡◌, ℕ, ◌+◌, ◌≤◌, List, [], ◌∷◌, ◌++◌, length, take, drop, Option, None, Some}
use Rattle.std.proofs.Common.{refl, sym, ap, subst, ◌∙◌, append_assoc, arith, length-append}
use Rattle.std.specs.Io.KnownBytes.{Appends, IsAtEnd}
use Rattle.std.proofs.KnownBytes.{Appends-trans}
use Rattle.std.proofs.Math.Seq.{drop-append_seam, take-append-add}
use Rattle.std.proofs.lemmas.List.{append-nil, take_all, take-append-drop}
use Rattle.sched_calls.specs.declared.reply.Entry.{Entry}
use Rattle.sched_history.specs.Machine.{Machine, kept_of}
use Rattle.text_stream.specs.Lines.{lines_of, TakesLines}
use Rattle.text_stream.specs.Told.{HasNoEnd}
use Rattle.live_command.specs.Spoken.{spoken}
use Rattle.live_command.specs.Answers.{SaysEach, joined, AnswersLines, Point, point_at, Waiting}
use Rattle.live_command.specs.Journal.{Grows, GrowsInPart}
use Rattle.live_command.specs.Sending.{AppendsInPart}
use Rattle.live_command.specs.Talk.{Start, AreLines, BeginsWith, Talk, Conversed, Stopped, BreaksOff}
use Rattle.live_command.proofs.Counted.{IsCounted-as}
use Rattle.live_command.proofs.Saying.{SaysEach-spoken, SaysEach-grows, joined-append}

-- lines were taken, and then others
pub TakesLines-trans : (a b c : Option (List ℕ)) (xs ys : List (List ℕ)) → TakesLines a xs b → TakesLines b ys c
    → TakesLines a (xs ++ ys) c
TakesLines-trans None b c xs ys first then = tt
TakesLines-trans (Some t) None c xs ys first then = absurd first
TakesLines-trans (Some t) (Some u) None xs ys first then = absurd then
TakesLines-trans (Some t) (Some u) (Some v) xs ys first then =
    first ∙ ap (λ (l : List (List ℕ)). xs ++ l) then ∙ sym (append_assoc xs ys (lines_of v))

-- no line was taken
pub TakesLines-none : (a : Option (List ℕ)) → TakesLines a [] a
TakesLines-none None = tt
TakesLines-none (Some t) = refl

-- lines that were taken are the first ones
pub TakesLines-front : (a b : Option (List ℕ)) (xs : List (List ℕ)) → TakesLines a xs b → BeginsWith a xs
TakesLines-front None b xs takes = tt
TakesLines-front (Some t) None xs takes = absurd takes
TakesLines-front (Some t) (Some u) xs takes = (lines_of u, takes)

-- and they are all of them, where the input has ended
pub TakesLines-all : (a b : Option (List ℕ)) (xs : List (List ℕ)) → TakesLines a xs b → IsAtEnd b → AreLines a xs
TakesLines-all None b xs takes ended = tt
TakesLines-all (Some t) None xs takes ended = absurd takes
TakesLines-all (Some t) (Some u) xs takes ended =
    takes ∙ ap (λ (l : List ℕ). xs ++ lines_of l) ended ∙ append-nil xs

-- a text was written, and then the first bytes of another
pub AppendsInPart-behind : (a b c : Option (List ℕ)) (text more : List ℕ) → Appends a b text → AppendsInPart b c more
    → AppendsInPart a c (text ++ more)
AppendsInPart-behind a b c text more first then = (
  length text + then.0,
  rw take-append-add (Appends-trans a b c text (take then.0 more) first then.1),
)

-- all of a text was written
pub AppendsInPart-all : (a b : Option (List ℕ)) (text : List ℕ) → Appends a b text → AppendsInPart a b text
AppendsInPart-all a b text first =
    (length text, subst (Appends a b) (sym (take_all (length text) text (omega arith))) first)

-- nothing was written
pub Appends-none : (a : Option (List ℕ)) → Appends a a []
Appends-none None = tt
Appends-none (Some xs) = sym (append-nil xs)

module _ (s : Start) (turns : ℕ) (m : Machine) (left written : Option (List ℕ)) (stands : List Entry → Type 0)
    (waits : Waiting) (talk : Talk s turns m left written stands waits) where
  -- all that was said, and the history that it made
  pub said : SaysEach s.config s.wording (point_at s.resumed) (spoken (talk.lines ++ talk.more))
      (talk.texts ++ talk.answers) talk.now
  said = SaysEach-spoken s.config s.wording (point_at s.resumed) talk.lines talk.texts talk.point talk.more
      talk.answers talk.now talk.says talk.says_more

  -- the entries that are kept are those behind the ones in the journal
  pub kept : m.history ≡ talk.point.history ++ kept_of m
  kept =
      let more = SaysEach-grows s.config s.wording talk.point (spoken talk.more) talk.answers talk.now
      talk.says_more in
      let grown : m.history ≡ talk.point.history ++ more.0 = sym talk.history ∙ more.1 in
      let rest : kept_of m ≡ more.0 =
      ap (λ (n : ℕ). drop n m.history) talk.handed
      ∙ ap (λ (h : List Entry). drop (length talk.point.history) h) grown
      ∙ drop-append_seam talk.point.history more.0 in
      grown ∙ ap (λ (h : List Entry). talk.point.history ++ h) (sym rest)

  -- all entries are put into the journal
  pub recorded : (now : List Entry → Type 0) → Grows stands now (kept_of m) → now m.history
  recorded now grows = subst now (sym kept) (grows talk.point.history talk.stood)

  -- and the answers are written
  pub out_all : (now : Option (List ℕ)) → Appends written now waits.text
      → Appends s.written now (joined (talk.texts ++ talk.answers))
  out_all now out =
      subst (Appends s.written now) (sym (joined-append talk.texts talk.answers))
      (Appends-trans s.written written now (joined talk.texts) (joined talk.answers) talk.out
      (subst (Appends written now) talk.waiting out))

  -- then nothing waits
  pub Talk-settled : (new : Machine) (sent : Option (List ℕ)) (now : List Entry → Type 0)
      → Grows stands now (kept_of m) → Appends written sent waits.text
      → new ≡ record m { handed = length m.history }
      → Talk s turns new left sent now (record waits { text = [] })
  Talk-settled new sent now grows out state =
      let same : new.history ≡ m.history = ap (λ (k : Machine). k.history) state in
      record {
        lines = talk.lines ++ talk.more;
        texts = talk.texts ++ talk.answers;
        point = talk.now;
        says = said;
        stood = subst now (sym talk.history) (recorded now grows);
        out = out_all sent out;
        more = [];
        answers = [];
        now = talk.now;
        says_more = refl;
        history = talk.history ∙ sym same;
        waiting = refl;
        counted = IsCounted-as talk.now waits (record waits { text = [] }) refl refl talk.counted;
        read = subst (λ (l : List (List ℕ)). TakesLines s.unread l left) (sym (append-nil (talk.lines ++ talk.more)))
            talk.read;
        config = ap (λ (k : Machine). k.config) state ∙ talk.config;
        handed = ap (λ (k : Machine). k.handed) state ∙ ap length (sym talk.history);
        many = subst (λ (l : List (List ℕ)). turns ≤ length l) (sym (append-nil (talk.lines ++ talk.more))) talk.many;
      }

  -- one line more, and its answer
  pub Talk-line : (line : List ℕ) (new : Machine) (left_new : Option (List ℕ)) (waits_new : Waiting)
      → TakesLines left (line ∷ []) left_new → AnswersLines s.wording (line ∷ []) talk.now m new waits waits_new
      → Talk s (turns + 1) new left_new written stands waits_new
  Talk-line line new left_new waits_new taken answers =
      let lines : (talk.lines ++ talk.more) ++ line ∷ [] ≡ talk.lines ++ (talk.more ++ line ∷ []) =
      append_assoc talk.lines talk.more (line ∷ []) in
      let says : SaysEach s.config s.wording talk.now (spoken (line ∷ [])) answers.texts answers.point =
      subst (λ c. SaysEach c s.wording talk.now (spoken (line ∷ [])) answers.texts answers.point) talk.config
      answers.says in
      record {
        lines = talk.lines;
        texts = talk.texts;
        point = talk.point;
        says = talk.says;
        stood = talk.stood;
        out = talk.out;
        more = talk.more ++ line ∷ [];
        answers = talk.answers ++ answers.texts;
        now = answers.point;
        says_more = SaysEach-spoken s.config s.wording talk.point talk.more talk.answers talk.now (line ∷ [])
            answers.texts answers.point talk.says_more says;
        history = answers.history;
        waiting = answers.waits ∙ ap (λ (w : List ℕ). w ++ joined answers.texts) talk.waiting
            ∙ sym (joined-append talk.answers answers.texts);
        counted = answers.counted;
        read = subst (λ (l : List (List ℕ)). TakesLines s.unread l left_new) lines
            (TakesLines-trans s.unread left left_new (talk.lines ++ talk.more) (line ∷ []) talk.read taken);
        config = ap (λ (k : Machine). k.config) answers.state ∙ talk.config;
        handed = ap (λ (k : Machine). k.handed) answers.state ∙ talk.handed;
        many = subst (λ (l : List (List ℕ)). turns + 1 ≤ length l) lines
            (omega (arith, talk.many, length-append (talk.lines ++ talk.more) (line ∷ [])));
      }

  -- nothing more is written, and some of the entries that were kept come into the journal
  pub Stopped-recording : (now : List Entry → Type 0) → GrowsInPart stands now (kept_of m)
      → Stopped s m.history written now
  Stopped-recording now grows =
      let part = grows talk.point.history talk.stood in
      record {
        lines = talk.lines;
        texts = talk.texts;
        point = talk.point;
        says = talk.says;
        out = AppendsInPart-all s.written written (joined talk.texts) talk.out;
        more = talk.more;
        answers = talk.answers;
        now = talk.now;
        says_more = talk.says_more;
        history = talk.history;
        read = TakesLines-front s.unread left (talk.lines ++ talk.more) talk.read;
        stood = talk.point.history ++ take part.0 (kept_of m);
        stands_for = part.1;
        behind = take part.0 (kept_of m);
        stood_is = refl;
        others = drop part.0 (kept_of m);
        whole_is = kept
            ∙ ap (λ (h : List Entry). talk.point.history ++ h) (sym (take-append-drop part.0 (kept_of m)))
            ∙ sym (append_assoc talk.point.history (take part.0 (kept_of m)) (drop part.0 (kept_of m)));
      }

  -- nothing more is written at all
  pub Stopped-quiet : Stopped s m.history written stands
  Stopped-quiet = Stopped-recording stands
      (λ (before : List Entry) stood. (0, subst stands (sym (append-nil before)) stood))

  -- all entries are in the journal, and some of the answers that waited are written
  pub Stopped-sending : (sent : Option (List ℕ)) (now : List Entry → Type 0) → Grows stands now (kept_of m)
      → AppendsInPart written sent waits.text → Stopped s m.history sent now
  Stopped-sending sent now grows out = record {
    lines = talk.lines ++ talk.more;
    texts = talk.texts ++ talk.answers;
    point = talk.now;
    says = said;
    out = subst (AppendsInPart s.written sent) (sym (joined-append talk.texts talk.answers))
        (AppendsInPart-behind s.written written sent (joined talk.texts) (joined talk.answers) talk.out
        (subst (AppendsInPart written sent) talk.waiting out));
    more = [];
    answers = [];
    now = talk.now;
    says_more = refl;
    history = talk.history;
    read = subst (BeginsWith s.unread) (sym (append-nil (talk.lines ++ talk.more)))
        (TakesLines-front s.unread left (talk.lines ++ talk.more) talk.read);
    stood = m.history;
    stands_for = recorded now grows;
    behind = [];
    stood_is = sym talk.history ∙ sym (append-nil talk.now.history);
    others = [];
    whole_is = sym (append-nil m.history);
  }

  -- and the answers could not be sent for lack of memory
  pub Stopped-unsent : (now : List Entry → Type 0) → Grows stands now (kept_of m)
      → Stopped s m.history written now
  Stopped-unsent now grows = Stopped-recording now
      (λ (before : List Entry) stood. (
        length (kept_of m),
        subst (λ (h : List Entry). now (before ++ h))
            (sym (take_all (length (kept_of m)) (kept_of m) (omega arith))) (grows before stood),
      ))

  -- nothing more is written, and one line more has an answer, of which no byte was written
  pub Stopped-unput : (line : List ℕ) (texts : List (List ℕ)) (end : Point) (new : List Entry)
      (left_new : Option (List ℕ)) → end.history ≡ new → TakesLines left (line ∷ []) left_new
      → SaysEach s.config s.wording talk.now (spoken (line ∷ [])) texts end → Stopped s new written stands
  Stopped-unput line texts end new left_new ends taken says =
      let more = SaysEach-grows s.config s.wording talk.now (spoken (line ∷ [])) texts end says in
      let grown : new ≡ m.history ++ more.0 =
      sym ends ∙ more.1 ∙ ap (λ (h : List Entry). h ++ more.0) talk.history in
      record {
        lines = talk.lines;
        texts = talk.texts;
        point = talk.point;
        says = talk.says;
        out = AppendsInPart-all s.written written (joined talk.texts) talk.out;
        more = talk.more ++ line ∷ [];
        answers = talk.answers ++ texts;
        now = end;
        says_more = SaysEach-spoken s.config s.wording talk.point talk.more talk.answers talk.now (line ∷ [])
            texts end talk.says_more says;
        history = ends;
        read = TakesLines-front s.unread left_new (talk.lines ++ (talk.more ++ line ∷ []))
            (subst (λ (l : List (List ℕ)). TakesLines s.unread l left_new)
            (append_assoc talk.lines talk.more (line ∷ []))
            (TakesLines-trans s.unread left left_new (talk.lines ++ talk.more) (line ∷ []) talk.read taken));
        stood = talk.point.history;
        stands_for = talk.stood;
        behind = [];
        stood_is = sym (append-nil talk.point.history);
        others = kept_of m ++ more.0;
        whole_is = grown ∙ ap (λ (h : List Entry). h ++ more.0) kept
            ∙ append_assoc talk.point.history (kept_of m) more.0;
      }

  -- so many lines came
  pub too_many : (n : ℕ) → n ≤ turns → BeginsWith s.unread (talk.lines ++ talk.more)
      × (n ≤ length (talk.lines ++ talk.more))
  too_many n most = (
    TakesLines-front s.unread left (talk.lines ++ talk.more) talk.read,
    omega (arith, most, talk.many),
  )

module _ (s : Start) (turns : ℕ) (m : Machine) (left written : Option (List ℕ)) (stands : List Entry → Type 0)
    (waits : Waiting) (talk : Talk s turns m left written stands waits) (empty : waits.text ≡ []) where
  -- all that was said was written
  pub nothing-waits : Appends s.written written (joined (talk.texts ++ talk.answers))
  nothing-waits = out_all s turns m left written stands waits talk written
      (subst (Appends written written) (sym empty) (Appends-none written))

  -- nothing waits, and the input has ended
  pub Talk-ended : (after : Option (List ℕ)) → stands m.history → IsAtEnd left → IsAtEnd after
      → Conversed s m after written stands
  Talk-ended after stood ended end = record {
    lines = talk.lines ++ talk.more;
    read = TakesLines-all s.unread left (talk.lines ++ talk.more) talk.read ended;
    ended = end;
    texts = talk.texts ++ talk.answers;
    point = talk.now;
    says = said s turns m left written stands waits talk;
    history = talk.history;
    out = nothing-waits;
    stood = stood;
  }

  -- nothing waits, and no line more comes
  abbrev pub Talk-broken : (after : Option (List ℕ)) → stands m.history → HasNoEnd left after
      → BreaksOff s m after written stands
  Talk-broken after stood none = record {
    lines = talk.lines ++ talk.more;
    between = left;
    read = talk.read;
    none = none;
    texts = talk.texts ++ talk.answers;
    point = talk.now;
    says = said s turns m left written stands waits talk;
    history = talk.history;
    out = nothing-waits;
    stood = stood;
  }
