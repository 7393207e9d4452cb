use Rattle.std.proofs.Common.{◌≡◌, ◌≢◌, ℕ, ◌-◌, ◌%◌, ◌≤◌, List, length, IsTrue}
use Rattle.nb_host.specs.Crashes.{Stays}
use Rattle.nb_host.specs.Meaning.{Leads}
use Rattle.nb_journal.specs.Offsets.{offset_of, page_end}
use Rattle.nb_journal.specs.Reading.{HoldsPage, IsReadTo}
use Rattle.nb_journal.proofs.finding.read_entries.Given as goal

abbrev pub invariant-entries : goal.invariant-entries
invariant-entries g l = record {
  read : (file : List ℕ) → IsTrue g.H.Host.meaning.tells → (g.H.Host.meaning.contents l.fn.host).file 2 ≡ file
      → l.len ≡ length file → IsReadTo file l.fn.journal → IsReadTo file l.journal;
  held : (file : List ℕ) → IsTrue g.H.Host.meaning.tells → (g.H.Host.meaning.contents l.fn.host).file 2 ≡ file
      → l.len ≡ length file → l.journal.entries % 128 ≢ 0 → HoldsPage l.journal.entries file l.page;
  within : l.journal.entries % 128 ≢ 0 → offset_of (page_end l.journal.entries) ≤ l.len;
  leads : Leads g.H.Host.meaning Stays l.fn.host l.host;
  faults : g.H.Host.meaning.faults l.host ≡ g.H.Host.meaning.faults l.fn.host;
  tally : g.H.Host.meaning.tally l.host ≡ g.H.Host.meaning.tally l.fn.host;
}

abbrev pub decreases-entries : goal.decreases-entries
decreases-entries g l = l.len - l.journal.entries
