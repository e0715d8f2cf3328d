-- The exchanges of a session: its requests, each with the document that it stages, and the one reply to each. All of it is of this project.
use Rattle.std.specs.Prelude.{ℕ, ◌≡◌, List, [], ◌∷◌, ◌++◌, Option, Some, None, codes, Bool, true, false}
use Rattle.std.specs.List.{flat_map}
use Rattle.std.specs.Str.{bytes_eq}
use Rattle.cim_words.specs.declared.statement.Statement.{Statement}
use Rattle.line_serve.specs.AnsweredLines.{Answer, AnsweredLine, without_return}
use Rattle.line_serve.specs.declared.answerer.Next.TheVariants as next
use Rattle.room_words.specs.declared.event.Entry.{Entry}
use Rattle.room_words.specs.declared.reply.Reply.{Reply}
use Rattle.room_words.specs.declared.reply.Reply.TheVariants as reply
use Rattle.session_host.specs.Replies.{AnswersLine}
use Rattle.session_host.specs.Views.{SessionState}
use Rattle.staging.specs.Documents.{closes, document_text}
use Rattle.wire.specs.Replies.{reply_text}

-- the line by which a document is staged
abbrev pub stage_line : List ℕ
stage_line = codes "stage"

-- a line that asks something, the lines of the document that it stages, and the reply
pub record Exchange : Type 0 where
  pub asked : List ℕ
  pub document : List (List ℕ)
  pub told : Reply

-- the texts of the replies, in their order
abbrev pub replies_text : List Exchange → List ℕ
replies_text = flat_map (λ exchange. reply_text exchange.told)

-- the answer to a line, by which a reply is told
abbrev pub answer_of : Reply → Answer
answer_of reply.Memory = None
answer_of reply.Bye = Some (next.Bye, reply_text reply.Bye)
answer_of other = Some (next.Go, reply_text other)

-- nothing is said to a line within a document, and the session goes on
abbrev pub silence : Answer
silence = Some (next.Go, [])

-- one of two things is so, by a test
abbrev pub When : Bool → Type 0 → Type 0 → Type 0
When true Yes No = Yes
When false Yes No = No

-- Lines make up exchanges, where a document may have begun. A line that is the word `stage` alone begins a document; each other line is a
-- request, with its reply. Within a document a line is part of it, and the one that ends it has the reply. A document that has begun
-- when the lines end has none.
abbrev pub MakeUp : Option (List (List ℕ)) → List AnsweredLine → List Exchange → Type 0
MakeUp begun [] exchanges = exchanges ≡ []
MakeUp None (line ∷ lines) exchanges =
    When (bytes_eq (without_return line.came) stage_line)
    ((line.answer ≡ silence) × MakeUp (Some []) lines exchanges)
    ((told : Reply) × (rest : List Exchange)
    × (exchanges ≡ record { asked = without_return line.came; document = []; told = told } ∷ rest)
    × (line.answer ≡ answer_of told) × MakeUp None lines rest)
MakeUp (Some begun) (line ∷ lines) exchanges =
    When (closes (without_return line.came))
    ((told : Reply) × (rest : List Exchange)
    × (exchanges ≡ record { asked = stage_line; document = begun ++ without_return line.came ∷ []; told = told } ∷ rest)
    × (line.answer ≡ answer_of told) × MakeUp None lines rest)
    ((line.answer ≡ silence) × MakeUp (Some (begun ++ without_return line.came ∷ [])) lines exchanges)

-- each exchange is answered from the state in which the one before left the session
abbrev pub AreAnswered : List Statement → List Entry → ℕ → SessionState → List Exchange → SessionState → Type 0
AreAnswered base history console before [] after = after ≡ before
AreAnswered base history console before (exchange ∷ exchanges) after = (between : SessionState)
    × AnswersLine base history console exchange.asked (document_text exchange.document) before exchange.told between
    × AreAnswered base history console between exchanges after
