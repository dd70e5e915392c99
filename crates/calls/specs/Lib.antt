-- What the calls come to stands in calls_defined; here is what the parts of a call cite besides.
pub mod Values
