pub mod AssignViews
