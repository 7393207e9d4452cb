use Rattle.nb_journal.proofs.Headings.{heading_read}
use Rattle.nb_journal.proofs.heading.parse_heading.Goals as goal

pub returns : goal.returns
returns c = λ log lawful is.
    heading_read log c.args.bytes.now lawful is c.version_of.ensures.first c.version_of.ensures.second
    (record { small = c.u64_at.type_inv; bytes = c.u64_at.ensures })
    (record { small = c.u64_at-2.type_inv; bytes = c.u64_at-2.ensures })
    (record { small = c.u64_at-3.type_inv; bytes = c.u64_at-3.ensures })
    (record { small = c.u64_at-4.type_inv; bytes = c.u64_at-4.ensures })
    (record { small = c.u64_at-5.type_inv; bytes = c.u64_at-5.ensures })
    (record { small = c.u64_at-6.type_inv; bytes = c.u64_at-6.ensures })
    (record { small = c.u64_at-7.type_inv; bytes = c.u64_at-7.ensures })
    c.edge_of.ensures.open c.edge_of.ensures.wrap
    (record { small = c.u64_at-8.type_inv; bytes = c.u64_at-8.ensures })
    (record { small = c.u64_at-9.type_inv; bytes = c.u64_at-9.ensures })
    (record { small = c.u64_at-10.type_inv; bytes = c.u64_at-10.ensures })
