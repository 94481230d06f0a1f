use Rattle.std.proofs.Common.{refl}
use Rattle.jl_cmd.proofs.ReduceEnds.{is_reported, ends_printed}
use Rattle.jl_cmd.proofs.reduce.reduce.Goals as goal

pub returns-in-Report-clause-ends : goal.returns-in-Report-clause-ends
returns-in-Report-clause-ends g c =
    ends_printed _ _ _ _ _ c.print_report.result c.in-Report.deleted c.in-Report.bytes (is_reported _ _ _ _ _ _ _ _ c.reduce_size.result c.in-Report.is c.now-moment.ensures.moment c.reduce_size.ensures.reduces)
    c.print_report.ensures.writes

pub returns-in-FolderFault-clause-ends : goal.returns-in-FolderFault-clause-ends
returns-in-FolderFault-clause-ends g c = (c.reduce_size.ensures.frame.faults.failed c.in-FolderFault.is, λ _. refl)

pub returns-in-NoMemory-clause-ends : goal.returns-in-NoMemory-clause-ends
returns-in-NoMemory-clause-ends g c = λ told. refl

pub returns-in-Report-clause-called : goal.returns-in-Report-clause-called
returns-in-Report-clause-called g c = λ told. (c.reduce_size.ensures.reduces told).called

pub returns-in-Report-clause-lawful : goal.returns-in-Report-clause-lawful
returns-in-Report-clause-lawful g c = λ told. (c.reduce_size.ensures.reduces told).lawful

pub returns-in-FolderFault-clause-called : goal.returns-in-FolderFault-clause-called
returns-in-FolderFault-clause-called g c = λ told. (c.reduce_size.ensures.reduces told).called

pub returns-in-FolderFault-clause-lawful : goal.returns-in-FolderFault-clause-lawful
returns-in-FolderFault-clause-lawful g c = λ told. (c.reduce_size.ensures.reduces told).lawful

pub returns-in-NoMemory-clause-called : goal.returns-in-NoMemory-clause-called
returns-in-NoMemory-clause-called g c = λ told. (c.reduce_size.ensures.reduces told).called

pub returns-in-NoMemory-clause-lawful : goal.returns-in-NoMemory-clause-lawful
returns-in-NoMemory-clause-lawful g c = λ told. (c.reduce_size.ensures.reduces told).lawful
