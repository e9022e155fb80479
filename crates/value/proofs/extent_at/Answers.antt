-- `value::extent_at` meets its contract: a function for each shape. Assumes nothing.
use Rattle.value.specs.Fields.{extent_at}
use Rattle.value.proofs.extent_at.Goals as goal

pub returns-in-Nothing : goal.returns-in-Nothing
unfolding extent_at
returns-in-Nothing c = rw c.in-Nothing.is c.needed_at.ensures

pub returns-in-Fixed : goal.returns-in-Fixed
unfolding extent_at
returns-in-Fixed c = rw c.in-Fixed.is c.needed_at-in-Fixed.ensures

pub returns-in-Text : goal.returns-in-Text
unfolding extent_at
returns-in-Text c = rw c.in-Text.is c.text_field.ensures

pub returns-in-Blob : goal.returns-in-Blob
unfolding extent_at
returns-in-Blob c = rw c.in-Blob.is c.blob_at.ensures

pub returns-in-CodePage : goal.returns-in-CodePage
unfolding extent_at
returns-in-CodePage c = rw c.in-CodePage.is c.blob_at-in-CodePage.ensures

pub returns-in-Decimal : goal.returns-in-Decimal
unfolding extent_at
returns-in-Decimal c = rw c.in-Decimal.is c.decimal_at.ensures

pub returns-in-Qname : goal.returns-in-Qname
unfolding extent_at
returns-in-Qname c = rw c.in-Qname.is c.qname_at.ensures

pub returns-in-Stamp : goal.returns-in-Stamp
unfolding extent_at
returns-in-Stamp c = rw c.in-Stamp.is c.needed_at-in-Stamp.ensures

pub returns-in-Date : goal.returns-in-Date
unfolding extent_at
returns-in-Date c = rw c.in-Date.is c.needed_at-in-Date.ensures

pub returns-in-Time : goal.returns-in-Time
unfolding extent_at
returns-in-Time c = rw c.in-Time.is c.time_at.ensures

pub returns-in-ZonedTime : goal.returns-in-ZonedTime
unfolding extent_at
returns-in-ZonedTime c = rw c.in-ZonedTime.is c.time_at-in-ZonedTime.ensures
