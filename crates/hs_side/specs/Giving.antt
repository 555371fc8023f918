-- What a content that a crash leaves gives, beside the contents before and after a call.
use Rattle.std.specs.Prelude.{◌≡◌, ◌⊎◌, ℕ, true, List, [], None, Some, Ok}
use Rattle.hs_ports.specs.Disk.{Loose, IsImage}
use Rattle.hs_side.specs.declared.header.Header.{Header}
use Rattle.hs_side.specs.Reading.{is_blank, log_of}

-- the same log
pub record GivesSame (before content : List ℕ) : Type 0 where
  pub same : log_of content ≡ log_of before

-- the log before or the log after
pub record GivesEither (before after content : List ℕ) : Type 0 where
  pub one : (log_of content ≡ log_of before) ⊎ (log_of content ≡ log_of after)

-- blank, or the log of this header and generation without a frame
pub record GivesEmpty (header : Header) (generation : ℕ) (content : List ℕ) : Type 0 where
  pub one : (log_of content ≡ Ok None)
      ⊎ (log_of content ≡ Ok (Some (record { header = header; generation = generation; frames = [] })))

-- every content that a crash may leave is blank
abbrev pub IsBlankEverywhere : Loose → Type 0
IsBlankEverywhere loose = (content : List ℕ) → IsImage loose content → is_blank content ≡ true
