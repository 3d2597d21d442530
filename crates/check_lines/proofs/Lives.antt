-- What was found in the input of a conversation, and what was written of it.
use Rattle.std.proofs.Common.{ℕ, List, Option, refl}
use Rattle.std.specs.Io.KnownBytes.{Appends}
use Rattle.std.specs.String.{string_bytes}
use Rattle.check_lines.specs.declared.form.CheckForm.{CheckForm}
use Rattle.check_lines.specs.declared.live.LiveReport.{LiveReport}
use Rattle.check_lines.specs.declared.live.LiveReport.TheVariants as report
use Rattle.check_lines.specs.Forms.{live_as}
use Rattle.check_lines.specs.Live.{FindsLive, ChecksLive, verdict_of}

-- so the input was checked
pub ChecksLive-written : (form : CheckForm) (found : LiveReport) (unread left before after : Option (List ℕ))
    → FindsLive unread left found → Appends before after (live_as form found)
    → ChecksLive form unread left before after (verdict_of found)
ChecksLive-written form (report.Talk talk) unread left before after finds written = record {
  talk = talk;
  found = finds;
  bad_is = refl;
  written = written;
}
ChecksLive-written form (report.Faulty fault place words) unread left before after finds written = record {
  place = place;
  found = finds;
  words = string_bytes words;
  written = written;
}
